use Rattle.std.proofs.Common.{◌≡◌, ◌<◌, ◌≤◌, [], ◌∷◌, ◌++◌, length, take, sym, ap, ◌∙◌, ap₂, arith, length-set}
use Rattle.std.proofs.lemmas.List.{take_more_set, map_more, take_all}
use Rattle.analysis.specs.Marks.{shares_with}
use Rattle.analysis.proofs.above.Above.sharing.Goals as goal

pub loop-h-preserved : goal.loop-h-preserved
loop-h-preserved c =
    let inv = c.loop-h.invariant in
    let rows = c.args.rows.now in
    let h = c.loop-h.h in
    let f = shares_with c.args.path.now in
    let row = c.index-rows-h.result in
    let there : h < length c.loop-h.flags = omega arith in
    let here = c.shares.ensures ∙ ap f c.index-rows-h.is in (
      length-set _ _ _ ∙ inv.0,
      take_more_set c.loop-h.flags h _ there ∙ ap₂ (λ l x. l ++ (x ∷ [])) inv.1 here ∙ sym (map_more f rows h row c.loop-h-test.true),
    )

pub returns : goal.returns
returns c =
    let inv = c.loop-h.invariant in
    let all : c.loop-h.h ≡ length c.args.rows.now = omega arith in
    let past : length c.args.rows.now ≤ c.loop-h.h = omega arith in
    ap (λ n. take n c.loop-h.flags) (sym all) ∙ inv.1 ∙ ap (mathlib.Core.List.map (shares_with c.args.path.now)) (take_all _ _ past)
