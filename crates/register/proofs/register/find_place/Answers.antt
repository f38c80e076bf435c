use Rattle.std.proofs.Common.{◌≡◌, ◌≢◌, rules, arith}
use Rattle.std.proofs.lemmas.Iterator.{IsFirst-from_position, YieldsList-from_slice, YieldsList-from_take}
use Rattle.std.proofs.lemmas.Iterator.Consumers.{YieldsList-at}
use Rattle.register.proofs.Places.{place_found, same_place, searched_to}
use Rattle.register.proofs.register.find_place.Goals as goal
use Rattle.register.specs.Entering.{numbers, in_use}
use borrow.Author.Tests.{tests}

pub returns : goal.returns
returns g c =
    let m = g.R.Numbered in
    let n = c.args.number in
    let xs = c.args.places.now in
    let road = YieldsList-from_take _ (YieldsList-at c.take.ensures.source (YieldsList-from_slice xs cc)) c.take.ensures.count in
    let run = IsFirst-from_position _ _ _ (λ r. m.numeral r ≡ n) (λ r. m.numeral r ≢ n) c.position.ensures.ran road (λ x q k. search (rules, tests)) (λ x q k. search (rules, tests)) in
    let f = numbers m.numeral m.unset xs in
    let used = in_use m.numeral m.unset c.args.used xs in
    let first = searched_to m.numeral m.unset n xs _ _ run used (omega arith) in
    let place = same_place used f n _ _ first (place_found used f n) in
    record { place = search (rules, place); first = search (rules, first) }
