use Rattle.std.proofs.Common.{List, ℕ, ◌||◌, ◌*◌, drop, ◌/◌, length, sym, ap, ◌∙◌, rules, tests}
use Rattle.std.proofs.lemmas.Iterator.{YieldsList-from_slice}
use Rattle.std.proofs.lemmas.Iterator.Search.{any_from_yields_List}
use Rattle.std.specs.Simd.{first_chunks}
use Rattle.fabric.specs.Paths.{has, links_in}
use Rattle.fabric.proofs.Sharing.{has_any, has_chunks}
use Rattle.fabric.proofs.path.Path.has.Goals as goal

pub returns-then-any : goal.returns-then-any
returns-then-any c =
    let link = c.args.link in
    let links = links_in c.args.self.now in
    let k = length links / 4 in
    let fours = any_from_yields_List (has link) _ _ _ c.any.ensures.ran (YieldsList-from_slice (first_chunks 4 k links) cc) (λ x b r q. search (rules, tests)) in
    c.if-any.true ∙ sym (has_chunks link 4 k links ∙ ap (λ t. t || has link (drop (k * 4) links)) (sym fours ∙ c.if-any.true))

pub returns-else-any : goal.returns-else-any
returns-else-any c =
    let link = c.args.link in
    let links = links_in c.args.self.now in
    let k = length links / 4 in
    let fours = any_from_yields_List (has link) _ _ _ c.any.ensures.ran (YieldsList-from_slice (first_chunks 4 k links) cc) (λ x b r q. search (rules, tests)) in
    let back = c.as_chunks.ensures.back ∙ ap (λ (xs : List ℕ). drop (length xs / 4 * 4) xs) c.as_slice.ensures in
    let rest = c.contains.ensures.value ∙ sym (has_any link c.as_chunks.result.1.now) ∙ ap (has link) back in
    rest ∙ sym (has_chunks link 4 k links ∙ ap (λ t. t || has link (drop (k * 4) links)) (sym fours ∙ c.if-any.false))
