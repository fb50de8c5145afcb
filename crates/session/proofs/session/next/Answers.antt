use Rattle.std.proofs.Common.{◌≡◌, map, take, ap, ◌∙◌, subst, arith, rules}
use Rattle.std.specs.Option.{option_map}
use Rattle.session.specs.Machine.{model, due, dues, First}
use Rattle.session.specs.Calls.{Few}
use Rattle.session.proofs.Accepted.{next_done, part_got}
use Rattle.session.proofs.Outcomes.{next_only}
use Rattle.session.proofs.session.next.Goals as goal

pub returns : goal.returns
returns g c =
    let M = model g.C.Clock.time g.P.Part.kind (g.K.Coupling.wiring c.args.coupling.now) in
    let places = c.args.places.now in
    let got = part_got places c.parts.result c.get.result c.in_ok-places.places c.get.ensures.lookup c.in_ok-places.ensures.ok_part in
    let few : Few M.wiring places → ⊥ = λ f. omega (arith, f, got.1, c.parts.ensures.is_the_count) in
    let is : c.in_ok-places.places.now ≡ take M.wiring.parts places = got.0 ∙ ap (λ n. take n places) c.parts.ensures.is_the_count in
    let found : First M.time (dues M places) c.imminent.result = subst (λ l. First M.time (map (due M.time M.kind) l) c.imminent.result) is c.imminent.ensures.is_imminent in
    let moment : c.map.result ≡ option_map (λ d. d.moment) c.imminent.result = search rules in
    let h = next_done M places c.imminent.result c.map.result few found moment in
    record { answers_the_earliest = h; has_one_outcome = next_only M g.met.C.Clock.lawful places _ h }
