use Rattle.std.proofs.Common.{◌<◌, length, set, ap, ◌∙◌, arith}
use Rattle.session.proofs.Accepted.{start_more}
use Rattle.session.proofs.session.start.Goals as goal

pub parts-preserved : goal.parts-preserved
parts-preserved g c =
    let here : c.parts.i < length c.args.starts.now = omega arith in
    let there : c.parts.i < length c.args.places.now = omega arith in
    ap (λ t. set c.parts.places c.parts.i (record { part = c.index-starts-i.result; last = t })) c.zero-last.ensures.is_zero
    ∙ start_more (λ s. record { part = s; last = g.C.Clock.time.zero }) c.args.starts.now c.args.places.now c.parts.places c.parts.i c.index-starts-i.result here there c.index-starts-i.is c.parts.invariant
