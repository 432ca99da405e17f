-- The links of a kept route. Assumes nothing.
use Rattle.std.proofs.Common.{◌≡◌, ◌≤◌, length, arith}
use Rattle.std.proofs.lemmas.List.{length-take-le}
use Rattle.fabric.specs.declared.path.Path.{Path}
use Rattle.fabric.specs.Paths.{links_in}

pub kept_length : (p : Path) → length (links_in p) ≡ p.len
kept_length p = let within : p.len ≤ length p.links = omega (arith, p.few, p.long) in length-take-le p.len p.links within
