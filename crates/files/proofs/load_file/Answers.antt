use Rattle.std.proofs.Common.{◌≡◌, sym, ap, ◌∙◌}
use Rattle.table.specs.declared.header.Header.{Header}
use Rattle.table.specs.File.{header_of}
use Rattle.files.proofs.Meant.{over_mesh, over_listed, means_mesh, means_lists}
use Rattle.files.proofs.load_file.Goals as goal

pub returns-then-read-eq0 : goal.returns-then-read-eq0
returns-then-read-eq0 c =
    let bs = c.args.file.now in
    let none : (header_of bs).links ≡ 0 = ap (λ (h : Header). h.links) (sym c.read.ensures) ∙ c.if-read-eq0.true in
    let all = means_mesh bs c.load_over.result none (over_mesh bs c.from_file.result c.load_over.result c.from_file.ensures c.load_over.ensures) in
    record { answer = all.0; exact = all.1 }

pub returns-else-read-eq0 : goal.returns-else-read-eq0
returns-else-read-eq0 c =
    let bs = c.args.file.now in
    let r = c.load_over-else-read-eq0.result in
    let some : (header_of bs).links ≡ 0 → ⊥ = λ e. c.if-read-eq0.false (ap (λ (h : Header). h.links) c.read.ensures ∙ e) in
    let all =
    means_lists bs r some (over_listed bs c.from_file-else-read-eq0.result r c.from_file-else-read-eq0.ensures c.load_over-else-read-eq0.ensures) in
    record { answer = all.0; exact = all.1 }
