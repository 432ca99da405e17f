pub mod Grid
pub mod Links
pub mod Paths
pub mod Makes
pub mod Trips
-- lemmas that the laws of `impl Fabric for Mesh` cite; tried in proofs/: "a `ghost use` imports from its own crate only what stands in its `specs`"
pub mod Routes
pub mod Laws
pub mod Ends
pub mod Walk
pub mod Axes
pub mod Steps
pub mod Headings
pub mod Hops
