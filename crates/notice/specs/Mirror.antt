-- When a notice answers another.
use Rattle.std.specs.Prelude.{Bool, true, false, ◌&&◌, ◌==◌}
use Rattle.notice.specs.declared.types.Direction.{Direction}
use Rattle.notice.specs.declared.types.Direction.TheVariants.{Sells, Buys}
use Rattle.notice.specs.declared.types.Trade.{Trade}

abbrev pub turned : Direction → Direction
turned Sells = Buys
turned Buys = Sells

-- the trade as its partner states it: sender and partner are exchanged, the direction is turned, and the rest is repeated
abbrev pub mirror : Trade → Trade
mirror t =
    record {
      number = t.number;
      sender = t.partner;
      partner = t.sender;
      direction = turned t.direction;
      first = t.first;
      last = t.last;
      quantity = t.quantity;
    }

abbrev pub same_direction : Direction → Direction → Bool
same_direction Sells Sells = true
same_direction Sells Buys = false
same_direction Buys Sells = false
same_direction Buys Buys = true

-- whether two trades are one, field by field
unfoldable pub same_trade : Trade → Trade → Bool
same_trade t u =
    (t.number == u.number)
    && (t.sender == u.sender
    && (t.partner == u.partner
    && (same_direction t.direction u.direction
    && (t.first == u.first && (t.last == u.last && t.quantity == u.quantity)))))
