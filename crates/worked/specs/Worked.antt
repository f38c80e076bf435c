-- What the worked figures are figures of.
use Rattle.std.specs.Prelude.{◌≡◌, Ok}
use Rattle.notice.specs.declared.types.Direction.TheVariants.{Sells}
use Rattle.notice.specs.declared.types.Notice.TheVariants.{Lodging, Confirmation}
use Rattle.notice.specs.declared.types.Trade.{Trade}
use Rattle.notice.specs.Form.{fields_of, written}
use Rattle.notice.specs.Mirror.{mirror}
use Rattle.notice.specs.Reading.{reading}
use Rattle.worked.specs.declared.types.Figures.{Figures}

-- notice 7: 1 sells to 2 in quarter-hours 33 to 36, 500 kWh in each
abbrev pub seven : Trade
seven = record { number = 7; sender = 1; partner = 2; direction = Sells; first = 33; last = 36; quantity = 500 }

pub record Worked (f : Figures) : Type 0 where
  pub lodging : f.lodging ≡ written (fields_of (Lodging seven))
  pub confirmation : f.confirmation ≡ written (fields_of (Confirmation (mirror seven)))
  pub lodging_read : reading 96 f.lodging ≡ Ok (Lodging seven)
  pub confirmation_read : reading 96 f.confirmation ≡ Ok (Confirmation (mirror seven))
