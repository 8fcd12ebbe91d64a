-- Bodies that are kept.
use Rattle.std.proofs.Common.{◌≡◌, ℕ, ◌≤◌, List, length, take, ap}
use Rattle.std.proofs.lemmas.List.{take_all}
use Rattle.entries.specs.Entries.{content}

-- a body of at most 96 bytes is kept whole
pub kept_whole : (m : ℕ) (b : List ℕ) → length b ≤ 96 → content m (take 96 b) ≡ content m b
kept_whole m b l = ap (content m) (take_all 96 b l)
