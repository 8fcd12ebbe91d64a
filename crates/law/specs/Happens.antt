-- That the laws are not about nothing: one run in which a replication copies a document and finishes, a replication the other way finishes with only its own
-- steps between, and a third, the first way again, opens at the position that the first recorded and finishes with nothing left to do.
use Rattle.std.specs.Prelude.{◌≡◌, ℕ, not, List, [], ◌∷◌}
use Rattle.order.specs.Lists.{Mem}
use Rattle.revision.specs.Trees.{Content, head}
use Rattle.revision.specs.Paths.{Path}
use Rattle.peer.specs.Peers.{tree_of}
use Rattle.law.specs.Replications.{Replication, done}
use Rattle.law.specs.Runs.{Open, World, StartStep, FinishStep, Run, Only}
use Rattle.law.specs.Laws.{Agreeing}

-- One run in which three replications finish. The first copies the document 97 (the byte 'a') with revision 1-5, and the second goes the other way; with only
-- the second one's steps between their finishes, both are such as the laws speak of. The third resumes where the first left off: it opens at the recorded
-- position and finds no row above it. Such a start is possible right behind the first finish, too.
pub record Happens : Type 0 where
  pub paths : List Path
  pub agreeing : Agreeing paths
  pub before : World
  pub past : World
  pub run : Run (λ p. Mem p paths) before
  pub stamp : ℕ
  pub first : Open
  pub numbers : Replication
  pub finishes : FinishStep stamp first (done numbers) before past
  pub totals : (numbers.rows ≡ 1) × (numbers.heads ≡ 1) × (numbers.paths ≡ 1) × (numbers.recorded ≡ 1)
  pub at_once : (w : World) × (o : Replication) × StartStep 15 first.source first.numbers.rule (done o) past w × (o.position ≡ numbers.recorded)
  pub copied : (c : Content) × (tree_of (past.peer (not first.source)) (97 ∷ []) 1 5 ≡ head 0 c)
  pub between : World
  pub over : World
  pub only : Only (λ p. Mem p paths) 14 past between
  pub back : Open
  pub back_numbers : Replication
  pub other_way : back.source ≡ not first.source
  pub rules : (first.numbers.rule ≡ []) × (back.numbers.rule ≡ [])
  pub finishes_back : FinishStep 14 back (done back_numbers) between over
  pub later : World
  pub opened : Replication
  pub resumes : StartStep 15 first.source first.numbers.rule (done opened) over later
  pub at_position : opened.position ≡ numbers.recorded
  pub end : World
  pub third : Open
  pub third_numbers : Replication
  pub finishes_again : FinishStep 15 third (done third_numbers) later end
  pub again_totals : (third_numbers.rows ≡ 0) × (third_numbers.recorded ≡ numbers.recorded)
  pub whole : Run (λ p. Mem p paths) end
