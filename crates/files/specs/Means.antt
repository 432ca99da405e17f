-- The fabric that a flow table means. Assumes nothing.
--   nodes_of: how many nodes it has
--   mesh_routes, listed_routes: the routes of the mesh of its width and height, and those that it lists
--   routes_of: the first where it lists no links, the second otherwise
use Rattle.std.specs.Prelude.{ℕ, ◌*◌, cond, List, ◌==◌}
use Rattle.fabric.specs.Routes.{Route}
use Rattle.table.specs.declared.header.Header.{Header}
use Rattle.table.specs.File.{header_of, links_of, numbers_of}
use Rattle.mesh.specs.Paths.{mesh_route}
use Rattle.listed.specs.ListedRoutes.{listed_route}
use Rattle.listed.specs.Made.{entries_listed}

abbrev pub nodes_of : Header → ℕ
nodes_of h = h.width * h.height

abbrev pub mesh_routes : List ℕ → ℕ → ℕ → ℕ → Route
mesh_routes bs i s d = mesh_route (header_of bs).width (header_of bs).height s d

abbrev pub listed_routes : List ℕ → ℕ → ℕ → ℕ → Route
listed_routes bs i s d = listed_route (nodes_of (header_of bs)) (links_of bs (header_of bs)) (entries_listed bs (header_of bs)) (numbers_of bs (header_of bs)) i s d

unfoldable pub routes_of : List ℕ → ℕ → ℕ → ℕ → Route
routes_of bs = cond ((header_of bs).links == 0) (mesh_routes bs) (listed_routes bs)
