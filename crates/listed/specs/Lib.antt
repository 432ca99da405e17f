pub mod ListedRoutes
pub mod Meaning
pub mod Made
-- lemmas that the laws of `impl Fabric for Listed` cite; tried in proofs/: "a `ghost use` imports from its own crate only what stands in its `specs`"
pub mod Laws
pub mod Sound
