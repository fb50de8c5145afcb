use Rattle.std.proofs.Common.{◌<◌, length, refl, ap, ◌∙◌, arith}
use Rattle.session.specs.Machine.{model}
use Rattle.session.proofs.Firings.{fire_event, fire_places}
use Rattle.session.proofs.delivery.fire.Goals as goal

pub returns : goal.returns
returns g c =
    let M = model g.C.Clock.time g.P.Part.kind (g.K.Coupling.wiring c.args.coupling.now) in
    let within : c.args.due.part < length c.args.places.now = omega arith in
    let read = c.index-places-part.is in
    let out = c.output-pins.ensures.is_the_output ∙ ap (λ q. g.P.Part.kind.output q.part) read in
    let reaches = c.reach-row.ensures.is_the_union_of_the_rows in
    record {
      tells_the_event =
          fire_event M c.args.places.now c.args.due.moment c.args.due.part c.index-places-part.result c.output-pins.result c.reach-row.result within out reaches _ refl;
      leaves_it_fired =
          fire_places M c.args.places.now c.args.due.moment c.args.due.part c.index-places-part.result c.output-pins.result c.reach-row.result within out reaches
          _ c.parts.result c.deliver.new.places (c.fired.ensures.takes_internal ∙ ap (λ q. record { part = g.P.Part.kind.internal q.part; last = c.args.due.moment }) read) c.parts.ensures.is_the_count (omega (arith, c.parts.ensures.is_the_count)) c.deliver.ensures.gives_each_its_set;
    }
