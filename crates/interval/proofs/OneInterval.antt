-- One interval from its opening to its reading: each pull changes the last level alone, and the interval just opened is the last.
use Rattle.std.proofs.Common.{◌≡◌, ℕ, ◌+◌, ◌-◌, ◌<◌, Bool, true, false, cond, not, ◌&&◌, ◌||◌, ltb, List, [], ◌∷◌, ◌++◌, length, get_or, drop, set, Some, None, Ok, unwrap_or, sym, refl, ap, ◌∙◌, arith}
use Rattle.std.proofs.lemmas.List.{length-set, set-set, set_at, length_push, get_or_at, at_drop_more}
use Rattle.std.proofs.Math.Bool.{and-true, or-true}
use Rattle.std.proofs.lemmas.Bool.{lt-ltb, cond_both}
use Rattle.medium.specs.declared.level.Level.{Level}
use Rattle.medium.specs.declared.level.Level.TheVariants.{Recessive, Dominant}
use Rattle.medium.specs.Levels.{level_of, may_open, opened, pulled, read_at}
use Rattle.medium.proofs.Refusals.{open_accepted}
use Rattle.interval.specs.declared.whole.Puller.{Puller}
use Rattle.interval.specs.Intervals.{pulled_if, pressed, some_pull, quiet_at}

-- A pull, which a node that there is not leaves without effect. Without an interval there is nothing to change.
pub pull_press : (ls : List Level) (node : ℕ) → pulled ls node ≡ pressed ls (ltb node 256)
pull_press [] node = cond_both (ltb node 256) [] [] (λ ls. [] ≡ ls) (λ _. refl) (λ _. refl)
pull_press (l ∷ ls) node =
    let all = l ∷ ls in
    ap (λ t. cond t (cond (ltb node 256) (set all (length all - 1) Dominant) all) all) (lt-ltb 0 (length all) (omega arith))

-- A node that may keep still.
pub pull_if_press : (ls : List Level) (node : ℕ) (pulls : Bool) → pulled_if ls node pulls ≡ pressed ls (pulls && ltb node 256)
pull_if_press ls node true = pull_press ls node
pull_if_press ls node false = refl

-- One pull after another.
pub press_twice : (ls : List Level) (a b : Bool) → pressed (pressed ls a) b ≡ pressed ls (a || b)
press_twice ls true true =
    let last = length ls - 1 in
    ap (λ n. set (set ls last Dominant) (n - 1) Dominant) (length-set ls last Dominant) ∙ set-set ls last Dominant Dominant
press_twice ls true false = refl
press_twice ls false b = refl

-- A loop over nodes that there are: after those that pulled (a), one more pulls or keeps still.
pub press_more : (ls now new : List Level) (a pulls : Bool) (node : ℕ) → node < 256 → now ≡ pressed ls a → new ≡ pulled_if now node pulls → new ≡ pressed ls (a || pulls)
press_more ls now new a pulls node lt before after =
    after
    ∙ pull_if_press now node pulls
    ∙ ap (λ t. pressed now (pulls && t)) (lt-ltb node 256 lt)
    ∙ ap (pressed now) (and-true pulls)
    ∙ ap (λ l. pressed l pulls) before
    ∙ press_twice ls a pulls

-- One puller of a list, where the levels change from `ls` to `new`.
pub pull_next : (ls new : List Level) (ps : List Puller) (i : ℕ) (d : Puller) → i < length ps → new ≡ pulled_if ls (get_or ps i d).node (get_or ps i d).pulls
    → pressed new (some_pull (drop (i + 1) ps)) ≡ pressed ls (some_pull (drop i ps))
pull_next ls new ps i d lt e =
    let p = get_or ps i d in
    let rest = some_pull (drop (i + 1) ps) in
    ap (λ l. pressed l rest) (e ∙ pull_if_press ls p.node p.pulls)
    ∙ press_twice ls (p.pulls && ltb p.node 256) rest
    ∙ sym (at_drop_more (λ qs. pressed ls (some_pull qs)) ps i d lt)

-- The interval just opened is the last: it is dominant if it was, or if somebody pulled.
pub press_last : (ls : List Level) (a b : Bool) → pressed (ls ++ (level_of a ∷ [])) b ≡ ls ++ (level_of (a || b) ∷ [])
press_last ls a true =
    let all = ls ++ (level_of a ∷ []) in
    let wide : length all ≡ length ls + 1 = length_push ls (level_of a) in
    set_at ls (level_of a) [] Dominant (length all - 1) (omega arith) ∙ ap (λ b. ls ++ (level_of b ∷ [])) (sym (or-true a))
press_last ls true false = refl
press_last ls false false = refl

-- The last level is what is read at the place of the interval just opened.
pub read_last : (ls : List Level) (l : Level) (k : ℕ) → length ls ≡ k → read_at (ls ++ (l ∷ [])) k ≡ Some l
read_last ls l k at =
    let all = ls ++ (l ∷ []) in
    let wide : length all ≡ length ls + 1 = length_push ls l in
    ap (λ t. cond t (Some (get_or all k Recessive)) None) (lt-ltb k (length all) (omega arith)) ∙ ap Some (get_or_at ls l [] Recessive k at)

quiet_level : (b : Bool) → quiet_at (Some (level_of b)) ≡ not b
quiet_level true = refl
quiet_level false = refl

-- It is quiet exactly where nobody pulled.
pub quiet_last : (ls : List Level) (b : Bool) (k : ℕ) → length ls ≡ k → quiet_at (read_at (ls ++ (level_of b ∷ [])) k) ≡ not b
quiet_last ls b k at = ap quiet_at (read_last ls (level_of b) k at) ∙ quiet_level b

-- A run's interval: it is opened below the limit, one node pulls or keeps still, and then somebody else pulls (rest) or nobody does.
pub contested : (most : ℕ) (ls start begun end : List Level) (own rest : Bool) (node k : ℕ) → length ls ≡ k → k < most → node < 256 → start ≡ opened most ls → begun ≡ pulled_if start node own
    → end ≡ pressed begun rest → (end ≡ ls ++ (level_of (own || rest) ∷ [])) × (quiet_at (read_at end k) ≡ not (own || rest))
contested most ls start begun end own rest node k at under lt opening first others =
    let new = opening ∙ ap (λ t. cond t (ls ++ (Recessive ∷ [])) ls) (lt-ltb (length ls) most (omega arith)) in
    let one = press_more start start begun false own node lt refl first in
    let all = others ∙ ap (λ l. pressed l rest) one ∙ press_twice start own rest ∙ ap (λ l. pressed l (own || rest)) new ∙ press_last ls false (own || rest) in
    (all, ap (λ l. quiet_at (read_at l k)) all ∙ quiet_last ls (own || rest) k at)

-- The whole interval, after an accepted open: what the medium holds after the pulls, and what is then read at the place of the interval.
pub whole : (most : ℕ) (ls start end : List Level) (ps : List Puller) (k : ℕ) (level : Level) → Ok tt ≡ may_open most (length ls) → start ≡ opened most ls → end ≡ pressed start (some_pull ps)
    → k ≡ length ls → level ≡ unwrap_or (read_at end k) Recessive → (ltb (length ls) most ≡ true) × (end ≡ ls ++ (level_of (some_pull ps) ∷ [])) × (level ≡ level_of (some_pull ps))
whole most ls start end ps k level may begun done at told =
    let under = open_accepted most (length ls) may in
    let new = begun ∙ ap (λ t. cond t (ls ++ (Recessive ∷ [])) ls) under in
    let all = done ∙ ap (λ l. pressed l (some_pull ps)) new ∙ press_last ls false (some_pull ps) in
    (under, all, told ∙ ap (λ l. unwrap_or (read_at l k) Recessive) all ∙ ap (λ o. unwrap_or o Recessive) (read_last ls (level_of (some_pull ps)) k (sym at)))
