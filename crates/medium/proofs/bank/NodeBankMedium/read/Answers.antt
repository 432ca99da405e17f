use Rattle.std.proofs.Common.{◌≡◌, Bool, cond, Option, Some, None, ap, ◌∙◌, rules}
use Rattle.std.specs.Option.{is_some, IfSome}
use Rattle.std.proofs.lemmas.Option.{IfSome_then}
use Rattle.medium.specs.Pulls.{pulled_at}
use Rattle.medium.proofs.LevelLists.{levels_read}
use Rattle.medium.proofs.bank.NodeBankMedium.read.Goals as goal

-- What `then` gives, where its closure gives x.
then_gives : {X : Type 0} (r : Option X) (b : Bool) (x : X) → is_some r ≡ b → IfSome r (λ y. y ≡ x) → r ≡ cond b (Some x) None
then_gives None b x e h = ap (λ t. cond t (Some x) None) e
then_gives (Some y) b x e h = ap Some h ∙ ap (λ t. cond t (Some x) None) e

pub returns-clause-answer : goal.returns-clause-answer
returns-clause-answer c =
    let s = c.args.self.now in
    then_gives _ _ _ c.then.ensures.variant (IfSome_then c.then.result c.then.ensures.some (λ y p. search rules))
    ∙ levels_read (pulled_at s.words.bits) s.count c.args.k
