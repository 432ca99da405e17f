-- What a file keeps whose size, header, fit and sections are in order. Assumes nothing.
use Rattle.std.proofs.Common.{◌≡◌, ℕ, zero, suc, ◌+◌, ◌*◌, ◌^◌, ◌<◌, ◌≤◌, Bool, true, false, cond, List, [], ◌∷◌, ◌++◌, length, is_some, Some, None, Ok, Err, Option, Result, MatchResult, unwrap_or, sym, refl, ap, ◌∙◌, subst, append_assoc, mul-le-mul, arith}
use Rattle.std.proofs.lemmas.List.FromFn.{length-map-range_with_len}
use Rattle.std.proofs.lemmas.Bool.Decides.{nat_tests}
use Rattle.table.specs.declared.fault.LoadFault.{LoadFault}
use Rattle.table.specs.declared.header.Header.{Header}
use Rattle.table.specs.declared.profile.Profile.{Profile}
use Rattle.table.specs.declared.fault.LoadFault.TheVariants.{NoMemory}
use Rattle.table.specs.Faults.{fault_number}
use Rattle.std.proofs.lemmas.Bool.{both_ways}
use Rattle.table.specs.Profiles.{profile_at}
use Rattle.table.specs.File.{flows_of, flow_at}
use Rattle.table.specs.Checks.{first_fault, size_checks, shape_checks, unlisted_checks, reserved_checks, profile_checks, header_checks, section_checks}
use Rattle.table.proofs.Firsts.{both_passed}
use Rattle.parts.specs.Slots.{slot_for}
use Rattle.analysis.specs.declared.setting.Setting.{Setting}
use Rattle.analysis.specs.Settings.{SetFor}
use Rattle.analysis.specs.Loading.{misfit_checks, open_checks, profile_of, no_profile}

-- the checks in the order of a load, and as they are made
pub regrouped : (a m s x : List (Bool × LoadFault)) → (a ++ (m ++ s)) ++ x ≡ a ++ (m ++ (s ++ x))
regrouped a m s x = append_assoc a (m ++ s) x ∙ ap (λ l. a ++ l) (append_assoc m s x)

pub record Opened (h : Header) : Type 0 where
  pub some : 1 ≤ h.flows
  pub few : h.flows ≤ 128
  pub spare : h.spare ≤ 4095
  pub known : is_some (profile_at h.profile) ≡ true

shaped : (h : Header) → first_fault (shape_checks h) ≡ None → (1 ≤ h.flows) × (h.flows ≤ 128) × (h.spare ≤ 4095)
shaped h e = (grind (arith, nat_tests), grind (arith, nat_tests), grind (arith, nat_tests))

profiled : (h : Header) → first_fault (profile_checks h) ≡ None → is_some (profile_at h.profile) ≡ true
profiled h e = by (is_some (profile_at h.profile)) e
  where
    by : (t : Bool) → cond (mathlib.Core.Bool.not t) (Some Rattle.table.specs.declared.fault.LoadFault.TheVariants.Profile) None ≡ None → t ≡ true
    by true same = refl
    by false same = let z : ◌≡◌ {A = ℕ} 0 1 = cc in absurd (omega arith)

pub opened : (len limit nodes : ℕ) (h : Header) → first_fault (open_checks len limit nodes h) ≡ None → Opened h
opened len limit nodes h e =
    let header = (both_passed (header_checks len h) (misfit_checks limit nodes h ++ section_checks len h) e).0 in
    let fields = (both_passed (size_checks len) (shape_checks h ++ (unlisted_checks h ++ (reserved_checks h ++ profile_checks h))) header).1 in
    let shape = both_passed (shape_checks h) (unlisted_checks h ++ (reserved_checks h ++ profile_checks h)) fields in
    let rest = (both_passed (unlisted_checks h) (reserved_checks h ++ profile_checks h) shape.1).1 in
    let last = (both_passed (reserved_checks h) (profile_checks h) rest).1 in
    let q = shaped h shape.0 in
    record { some = q.0; few = q.1; spare = q.2; known = profiled h last }

-- a built-in profile moves flits, and its numbers are small
pub record Sound (p : Profile) : Type 0 where
  pub interval : 1 ≤ p.interval
  pub interval_small : p.interval ≤ 65535
  pub pause_small : p.pause ≤ 65535
  pub transfer : 1 ≤ p.transfer
  pub flit : 1 ≤ p.flit

sound_at : (q p : Profile) → p ≡ q → 1 ≤ q.interval → q.interval ≤ 65535 → q.pause ≤ 65535 → 1 ≤ q.transfer → 1 ≤ q.flit → Sound p
sound_at q p e a b c d f = subst Sound (sym e) (record { interval = a; interval_small = b; pause_small = c; transfer = d; flit = f })

some_is : (p q : Profile) → ◌≡◌ {A = Option Profile} (Some p) (Some q) → p ≡ q
some_is p q e = cc

pub sound : (n : ℕ) (p : Profile) → Some p ≡ profile_at n → Sound p
sound zero p e = let z : ◌≡◌ {A = ℕ} 0 1 = cc in absurd (omega arith)
sound (suc zero) p e = let q : Profile = record { interval = 1; routing = 3; transfer = 1; pause = 0; flit = 4 } in sound_at q p (some_is p q e) (omega arith) (omega arith) (omega arith) (omega arith) (omega arith)
sound (suc (suc zero)) p e = let q : Profile = record { interval = 1; routing = 3; transfer = 1; pause = 6; flit = 4 } in sound_at q p (some_is p q e) (omega arith) (omega arith) (omega arith) (omega arith) (omega arith)
sound (suc (suc (suc zero))) p e = let q : Profile = record { interval = 4; routing = 3; transfer = 2; pause = 8; flit = 8 } in sound_at q p (some_is p q e) (omega arith) (omega arith) (omega arith) (omega arith) (omega arith)
sound (suc (suc (suc (suc zero)))) p e = let q : Profile = record { interval = 2; routing = 1; transfer = 1; pause = 0; flit = 16 } in sound_at q p (some_is p q e) (omega arith) (omega arith) (omega arith) (omega arith) (omega arith)
sound (suc (suc (suc (suc (suc n))))) p e = let z : ◌≡◌ {A = ℕ} 0 1 = cc in absurd (omega arith)

pub sound_known : (h : Header) → is_some (profile_at h.profile) ≡ true → Sound (profile_of h)
sound_known h known = by (profile_at h.profile) refl known
  where
    by : (o : Option Profile) → profile_at h.profile ≡ o → is_some o ≡ true → Sound (unwrap_or o no_profile)
    by (Some p) e some = sound h.profile p (sym e)
    by None e some = let z : ◌≡◌ {A = ℕ} 0 1 = cc in absurd (omega arith)

-- the setting of such a header
pub set_from :
    (o : Option LoadFault) (H h : Header) (r : Result Setting LoadFault) → h ≡ H → o ≡ None → is_some (profile_at H.profile) ≡ true →
    MatchResult r (SetFor h) (λ _. profile_at h.profile ≡ None) → MatchResult r (λ s. (o ≡ None) × SetFor H s) (λ e. o ≡ Some e)
set_from o H h (Ok s) same fine known set = (fine, subst (λ (k : Header). SetFor k s) same set)
set_from o H h (Err e) same fine known none =
    absurd (both_ways (is_some (profile_at H.profile)) (sym (ap (λ (p : Option Profile). is_some p) (sym none ∙ ap (λ (k : Header). profile_at k.profile) same))) known)

pub slot_short : (h : Header) (p : Profile) → Opened h → Sound p → ((slot_for h p).length < 2 ^ 30) × (0 < (slot_for h p).length)
slot_short h p ok small =
    let few : h.flows + h.spare ≤ 4223 = omega (arith, ok.few, ok.spare) in
    let some : 1 ≤ h.flows + h.spare = omega (arith, ok.some) in
    (omega (arith, mul-le-mul few small.interval_small, small.pause_small), omega (arith, mul-le-mul some small.interval))

pub flow_count : (bs : List ℕ) (h : Header) → length (flows_of bs h) ≡ h.flows
flow_count bs h = length-map-range_with_len (λ i. flow_at bs (h.flows_at + 16 * i)) 0 h.flows

-- no check tells of want of memory
NumberedAll : List (Bool × LoadFault) → Type 0
NumberedAll [] = Unit {0}
NumberedAll (x ∷ rest) = (is_some (fault_number x.1) ≡ true) × NumberedAll rest

first_numbered : (checks : List (Bool × LoadFault)) (e : LoadFault) → NumberedAll checks → first_fault checks ≡ Some e → is_some (fault_number e) ≡ true
unfolding NumberedAll
first_numbered [] e all fault = let z : ◌≡◌ {A = ℕ} 0 1 = cc in absurd (omega arith)
first_numbered ((true, f) ∷ rest) e all fault = let same : f ≡ e = cc in subst (λ (x : LoadFault). is_some (fault_number x) ≡ true) same all.0
first_numbered ((false, f) ∷ rest) e all fault = first_numbered rest e all.1 fault

open_numbered : (len limit nodes : ℕ) (h : Header) → NumberedAll (open_checks len limit nodes h)
unfolding NumberedAll
open_numbered len limit nodes h =
    (refl, (refl, (refl, (refl, (refl, (refl, (refl, (refl, (refl, (refl, (refl, (refl, (refl, (refl, (refl, (refl, tt))))))))))))))))

pub open_never : (len limit nodes : ℕ) (h : Header) → first_fault (open_checks len limit nodes h) ≡ Some NoMemory → ⊥
open_never len limit nodes h fault = both_ways false refl (first_numbered (open_checks len limit nodes h) NoMemory (open_numbered len limit nodes h) fault)
