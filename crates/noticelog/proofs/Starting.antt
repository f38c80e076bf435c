-- The day before the first notice: its opening, and one party more.
use Rattle.std.proofs.Common.{◌≡◌, ℕ, ◌+◌, ◌<◌, length, Ok, sym, refl, ap, ◌∙◌, subst, arith, below_more}
use Rattle.day.proofs.Concluded.{granted, ready_passes}
use Rattle.day.proofs.PartyKept.{party_kept, pushed_below}
use Rattle.day.specs.Days.{open_extent}
use Rattle.day.specs.declared.types.OpenDay.{OpenDay}
use Rattle.day.specs.Entering.{entering_faults, entering_party, party_entered, party_faults}
use Rattle.day.specs.Opening.{Opened}
use Rattle.day.specs.Outcome.{Outcome}
use Rattle.memory.specs.declared.types.Extent.{Extent}
use Rattle.memory.specs.declared.types.Party.{Party}
use Rattle.memory.specs.Held.{Held, no_party, party_number}
use Rattle.memory.specs.Order.{Sized, InOrder}
use Rattle.memory.specs.Ready.{memory_faults}
use Rattle.noticelog.specs.Start.{Begun, NumberedParties}
use Rattle.refusal.proofs.Judging.{passed_both}
use Rattle.register.proofs.Meaning.{decides_unborne}
use Rattle.register.specs.Numbers.{Distinct, Unborne}
use Rattle.std.proofs.lemmas.List.{get_or-set_same, length-set}
use Rattle.std.proofs.lemmas.Bool.{lt-leb, ne_eqb, not-true}
use Rattle.store.specs.Stored.{blank}

-- what the entries of the parties 1 to the last have made of the day before them and of its memory
pub record EnteredUpTo (before : Extent) (last : ℕ) (e : Extent) (m : Held) : Type 0 where
  pub numbered : NumberedParties before last e m
  pub begun : Begun last e m

pub entered_none : (e : Extent) (m : Held) → Begun 0 e m → EnteredUpTo e 0 e m
entered_none e m begun =
    record {
      numbered = record { day = refl; points = refl; notices = refl; parties = begun.parties; numbers = begun.numbers };
      begun = begun;
    }

no_numbers : (f : ℕ → ℕ) (n : ℕ) → n ≡ 0 → Distinct f n
unfolding Distinct
no_numbers f n none k l = absurd (omega arith)

module _ (e : Extent) (none-party : e.parties ≡ 0) (none-point : e.points ≡ 0) (none-notice : e.notices ≡ 0) where
  abbrev m : Held
  m = blank 8 0 64

  blank_sized : Sized e m
  blank_sized =
      record {
        parties = (omega arith, omega arith);
        points = (omega arith, omega arith);
        notices = (omega arith, omega arith);
        readings = refl;
        outside = refl;
        imbalances = refl;
        amounts = refl;
        billed = refl;
        bills = refl;
      }

  blank_in_order : InOrder e m
  blank_in_order =
      record {
        registers =
            record {
              parties = no_numbers _ e.parties none-party;
              points = no_numbers _ e.points none-point;
              points_right = λ x l. absurd (omega arith);
              notices = no_numbers _ e.notices none-notice;
              notices_right = λ j l. absurd (omega arith);
            };
        figures =
            record {
              readings = λ x l q h. absurd (omega arith);
              outside = λ i l q h. absurd (omega arith);
              amounts = λ i l. absurd (omega arith);
              billed = λ i l. absurd (omega arith);
            };
      }

  pub blank_begun : e.day.number ≡ 2 → e.day.count ≡ 96 → Begun 0 e m
  blank_begun number count =
      record {
        number = number;
        count = count;
        parties = none-party;
        points = none-point;
        notices = none-notice;
        numbers = λ i l. absurd (omega arith);
        party_places = refl;
        point_places = refl;
        notice_places = refl;
        sized = blank_sized;
        in_order = blank_in_order;
      }

-- the day that was opened, upon the memory that was made for it
pub begun_none : (d : OpenDay) (m : Held) → Opened 2 96 (Ok d) → m ≡ blank 8 0 64 → Begun 0 (open_extent d) m
begun_none d m opened made = subst (λ (h : Held). Begun 0 (open_extent d) h) (sym made) (blank_begun (open_extent d) opened.2 opened.3 opened.4 opened.0 opened.1)

-- the entry of the next party is granted, and leaves one party more
module _ (k : ℕ) (e : Extent) (m : Held) (old : Begun k e m) (few : k < 8) where
  new : Unborne (k + 1) (party_number m) e.parties
  new i l same = absurd (omega (arith, old.parties, old.numbers i (omega (arith, old.parties))))

  room : e.parties < length m.parties
  room = omega (arith, old.parties, old.party_places)

  entry : entering_party e m (k + 1) ≡ record { answer = Ok tt; extent = (party_entered e m (k + 1)).extent; memory = (party_entered e m (k + 1)).memory }
  entry =
      granted e m (entering_faults e m (k + 1)) (party_entered e m (k + 1)) (
        ne_eqb (k + 1) 0 (omega arith),
        passed_both (memory_faults e m) (party_faults e.parties m.parties (k + 1)) (ready_passes e m old.sized old.in_order)
            (not-true _ ((decides_unborne e.parties (party_number m) (k + 1)).1 new), (lt-leb _ _ room, tt)),
      )

  begun_here : Begun (k + 1) (party_entered e m (k + 1)).extent (party_entered e m (k + 1)).memory
  begun_here =
      let at = e.parties in
      let x : Party = record { number = k + 1 } in
      let g = party_entered e m (k + 1) in
      let kept = party_kept e m (k + 1) old.sized old.in_order room (omega arith) new in
      record {
        number = old.number;
        count = old.count;
        parties = ap (λ n. n + 1) old.parties;
        points = old.points;
        notices = old.notices;
        numbers =
            below_more _ k
            (λ i l. ap (λ (p : Party). p.number) (pushed_below m.parties at x no_party i (omega (arith, old.parties))) ∙ old.numbers i l)
            (ap (λ n. party_number g.memory n) (sym old.parties) ∙ ap (λ (p : Party). p.number) (get_or-set_same m.parties at x no_party room));
        party_places = length-set m.parties at x ∙ old.party_places;
        point_places = old.point_places;
        notice_places = old.notice_places;
        sized = kept.0;
        in_order = kept.1;
      }

-- whatever outcome the entry of the next number has, it is that grant
pub entered_next : {before e : Extent} {m : Held} {k : ℕ} → EnteredUpTo before k e m → k < 8 →
    (number last : ℕ) → number ≡ k + 1 → last ≡ k + 1 → (o : Outcome) → entering_party e m number ≡ o →
    (o.answer ≡ Ok tt) × EnteredUpTo before last o.extent o.memory
entered_next {before} {e} {m} {k} old few number last next after o is =
    let g = party_entered e m (k + 1) in
    let was = old.numbered in
    let begun = begun_here k e m old.begun few in
    let entered : EnteredUpTo before (k + 1) g.extent g.memory =
    record {
      numbered = record { day = was.day; points = was.points; notices = was.notices; parties = begun.parties; numbers = begun.numbers };
      begun = begun;
    } in
    let same : record { answer = Ok tt; extent = g.extent; memory = g.memory } ≡ o = sym (entry k e m old.begun few) ∙ ap (entering_party e m) (sym next) ∙ is in
    subst (λ (p : Outcome). (p.answer ≡ Ok tt) × EnteredUpTo before last p.extent p.memory) same
    (refl, subst (λ n. EnteredUpTo before n g.extent g.memory) (sym after) entered)
