use Rattle.std.proofs.Common.{◌≡◌, ℕ, ◌<◌, ◌≤◌, true, false, ltb, if◌then◌else◌, Option, Some, None, List, length, ⊎_elim, sym, ap, ◌∙◌, arith, rules}
use Rattle.std.specs.Option.{is_some, MatchOption}
use Rattle.std.proofs.lemmas.Bool.{cases_lt, cond-true, cond-false, lt-ltb, le-ltb}
use Rattle.std.proofs.lemmas.Bool.Decides.{nat_tests}
use Rattle.std.proofs.lemmas.Iterator.{first_from_Range}
use Rattle.medium.specs.declared.level.Level.{Level}
use Rattle.medium.specs.Levels.{read_at}
use Rattle.interval.proofs.steps.first_closed.Goals as goal

-- The first number below most that is not below n is n, where n is below most.
first_is : (n most : ℕ) (r : Option ℕ) → MatchOption r ((k : ℕ) → 0 ≤ k → k < most → k < n) (λ i. (0 ≤ i) × (i < most) × (n ≤ i) × ((k : ℕ) → 0 ≤ k → k < i → k < n))
    → r ≡ (if ltb n most then Some n else None)
first_is n most None few =
    ⊎_elim (λ (l : n < most). absurd (omega (arith, few n (omega arith) l))) (λ (l : most ≤ n). sym (cond-false (ltb n most) (Some n) None (le-ltb n most l))) (cases_lt n most)
first_is n most (Some i) found =
    let is : i ≡ n = ⊎_elim (λ (l : n < i). absurd (omega (arith, found.3 n (omega arith) l))) (λ (l : i ≤ n). omega (arith, found.2)) (cases_lt n i) in
    let below : n < most = omega (arith, found.1) in
    ap (λ (x : ℕ). Some x) is ∙ sym (cond-true (ltb n most) (Some n) None (lt-ltb n most below))

-- What a read tells of the place where it found nothing, or a level.
not_open : (ls : List Level) (k : ℕ) → is_some (read_at ls k) ≡ false → length ls ≤ k
not_open ls k e = grind (arith, nat_tests)

is_open : (ls : List Level) (k : ℕ) → is_some (read_at ls k) ≡ true → k < length ls
is_open ls k e = grind (arith, nat_tests)

pub returns : goal.returns
returns g c =
    let ls = g.M.Medium.levels c.args.medium.now in
    let n = length ls in
    first_is n c.args.limit c.find.result
    (first_from_Range _ _ _ _ (λ x. n ≤ x) (λ x. x < n) c.find.ensures.ran (λ x q h. not_open ls x (search rules)) (λ x q h. (search rules, is_open ls x (search rules))))
