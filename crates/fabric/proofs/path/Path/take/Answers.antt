use Rattle.std.proofs.Common.{◌≡◌, ◌<◌, ◌≤◌, [], ◌∷◌, ◌++◌, length, take, Ok, sym, refl, ap, ◌∙◌, arith, length-set, rules}
use Rattle.std.proofs.lemmas.List.{take_more_set, take_more, take_all}
use Rattle.fabric.proofs.Lengths.{length_ok, link_some}
use Rattle.fabric.proofs.path.Path.take.Goals as goal

pub loop-k-init : goal.loop-k-init
loop-k-init g c =
    let got = length_ok _ _ c.in_ok-len.ensures in
    (got.0, got.1, got.2, (g.met.F.Fabric.lawful _ _ _ _ _ got.1).few, search rules, refl)

pub loop-k-preserved : goal.loop-k-preserved
loop-k-preserved g c =
    let inv = c.loop-k.invariant in
    let p = inv.0 in
    let k = c.loop-k.k in
    let within : k < length p = omega arith in
    let there : k < length c.loop-k.links = omega arith in
    let link = link_some _ p k _ inv.1 within c.in-Some.ensures in (
      p,
      inv.1,
      inv.2,
      inv.3,
      length-set _ _ _ ∙ inv.4,
      take_more_set c.loop-k.links k _ there ∙ ap (λ ys. ys ++ (c.in-Some.link ∷ [])) inv.5 ∙ ap (λ y. take k p ++ (y ∷ [])) link ∙ sym (take_more p k 0 within),
    )

pub returns : goal.returns
returns g c =
    let inv = c.loop-k.invariant in
    let p = inv.0 in
    let done : length p ≤ c.loop-k.k = omega arith in
    let same : c.in_ok-len.len ≡ c.loop-k.k = omega arith in
    ap Ok (ap (λ n. take n c.loop-k.links) same ∙ inv.5 ∙ take_all _ _ done) ∙ sym inv.1
