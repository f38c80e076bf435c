-- A notice, its ten fields and its fourteen bytes.
use Rattle.std.specs.Prelude.{ℕ, Bool, true, false, cond, List, [], ◌∷◌, ◌++◌, Ok, Err, Result, ◌==◌, slice_index}
use Rattle.notice.specs.declared.types.Direction.{Direction}
use Rattle.notice.specs.declared.types.Direction.TheVariants.{Sells, Buys}
use Rattle.notice.specs.declared.types.Fields.{Fields}
use Rattle.notice.specs.declared.types.Notice.{Notice}
use Rattle.notice.specs.declared.types.Notice.TheVariants.{Lodging, Confirmation, Withdrawal}
use Rattle.notice.specs.declared.types.Trade.{Trade}
use Rattle.notice.specs.Packing.{join, split, twelve, two, check_of}
use Rattle.refusal.specs.declared.fault.Fault.{Fault}

-- the widths of kind, spare, number, sender, partner, direction, first, last, spare and quantity
abbrev pub layout : List ℕ
layout = 4 ∷ 4 ∷ 16 ∷ 16 ∷ 16 ∷ 1 ∷ 7 ∷ 7 ∷ 1 ∷ 24 ∷ []

-- the ten fields in their order, and back
abbrev pub listed : Fields → List ℕ
listed f =
    f.kind ∷ f.spare ∷ f.number ∷ f.sender ∷ f.partner ∷ cond f.buys 1 0 ∷ f.first ∷ f.last ∷ f.unused ∷ f.quantity ∷ []

abbrev pub fields_from : List ℕ → Fields
fields_from vs =
    record {
      kind = slice_index vs 0;
      spare = slice_index vs 1;
      number = slice_index vs 2;
      sender = slice_index vs 3;
      partner = slice_index vs 4;
      buys = (slice_index vs 5 == 1);
      first = slice_index vs 6;
      last = slice_index vs 7;
      unused = slice_index vs 8;
      quantity = slice_index vs 9;
    }

-- the fields as one number of 96 bits; as twelve bytes, and the two of their check
abbrev pub packed : Fields → ℕ
packed f = join 0 layout (listed f)

abbrev pub checked : List ℕ → List ℕ
checked bs = bs ++ split two (check_of bs)

abbrev pub written : Fields → List ℕ
written f = checked (split twelve (packed f))

-- what the bytes are after writing: the new ones, or on a refusal the old
abbrev pub filled : Result (Unit {0}) Fault → List ℕ → List ℕ → List ℕ
filled (Ok u) new old = new
filled (Err f) new old = old

-- the direction bit: 0 the sender sells, 1 it buys
abbrev pub bit_of : Direction → Bool
bit_of Sells = false
bit_of Buys = true

abbrev pub direction_of : Bool → Direction
direction_of b = cond b Buys Sells

-- the notice that fields mean: kind 1 a lodging, 2 a confirmation, 3 a withdrawal
abbrev pub trade_of : Fields → Trade
trade_of f =
    record {
      number = f.number;
      sender = f.sender;
      partner = f.partner;
      direction = direction_of f.buys;
      first = f.first;
      last = f.last;
      quantity = f.quantity;
    }

abbrev pub notice_of : Fields → Notice
notice_of f =
    cond (f.kind == 1) (Lodging (trade_of f)) (cond (f.kind == 2) (Confirmation (trade_of f)) (Withdrawal (trade_of f)))

-- the fields of a notice
abbrev pub fields_as : ℕ → Trade → Fields
fields_as kind t =
    record {
      kind = kind;
      spare = 0;
      number = t.number;
      sender = t.sender;
      partner = t.partner;
      buys = bit_of t.direction;
      first = t.first;
      last = t.last;
      unused = 0;
      quantity = t.quantity;
    }

abbrev pub fields_of : Notice → Fields
fields_of (Lodging t) = fields_as 1 t
fields_of (Confirmation t) = fields_as 2 t
fields_of (Withdrawal t) = fields_as 3 t

-- the trade that a notice states
abbrev pub stated : Notice → Trade
stated (Lodging t) = t
stated (Confirmation t) = t
stated (Withdrawal t) = t
