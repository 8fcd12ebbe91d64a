-- A path that is given by bytes and numbers.
use Rattle.std.proofs.Common.{◌≡◌, ℕ, List, None, Ok, Err, Result, subst, inr}
use Rattle.decline.specs.declared.Fault.{Fault}
use Rattle.revision.specs.Paths.{Path}
use Rattle.peer.specs.Peers.{path}
use Rattle.peer.specs.Functions.{path_write, input, path_given}
use Rattle.peer.specs.Replies.{plain}
use Rattle.tables.specs.declared.Tables.{Tables}
use Rattle.tables.specs.Calls.{PathReplied, Writes}

-- a path that was read is written as the one that was given
pub path_writes : (t : Tables) (bs : List ℕ) (g : ℕ) (ts : List ℕ) (m : ℕ) (b : List ℕ) (p : Path) (r : Result ℕ Fault) (u : Tables) →
    (input (path_write bs g ts m b) ≡ None) × (p ≡ path_given bs g ts m b) → PathReplied t p r u → Writes (path_write bs g ts m b) plain (path (path_given bs g ts m b)) t r u
path_writes t bs g ts m b p r u i h = go r (subst (λ (w : Path). PathReplied t w r u) i.1 h)
  where
    go : (r : Result ℕ Fault) → PathReplied t (path_given bs g ts m b) r u → Writes (path_write bs g ts m b) plain (path (path_given bs g ts m b)) t r u
    go (Ok a) (v, e, q) = ((i.0, v, e), q)
    go (Err e) (x, f, v, q) = (x, f, inr (i.0, v), q)
