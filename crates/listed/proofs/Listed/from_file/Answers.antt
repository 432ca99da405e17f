-- The checks of the header say that the fabric keeps to its sizes.
use Rattle.listed.proofs.Headers.{sized, few_links}
use Rattle.listed.proofs.Listed.from_file.Goals as goal

pub invariant_of-result : goal.invariant_of-result
invariant_of-result c =
    let bs = c.args.bytes.now in
    let h = c.in_ok-header.header in
    let size = sized bs h c.in_ok-header.ensures in
    record { some = rw (c.from.ensures, c.from-2.ensures) size.some; few = rw (c.from.ensures, c.from-2.ensures) size.few; limit = few_links bs h _ size c.in_ok-links.ensures }
