use Rattle.std.proofs.Common.{ℕ, Option, Ok, subst, arith}
use Rattle.tables.specs.Paths.{LookedUp}
use Rattle.tables.proofs.Standings.{none_yet, newer, no_newer}
use Rattle.tables.proofs.Tables.newest_held.Goals as goal
use Rattle.tables.proofs.Tables.newest_held.Goals.{in-Some, in_default}

pub loop-generation-init : goal.loop-generation-init
loop-generation-init c = none_yet c.args.self.now c.args.document c.args.path.now c.requires

pub loop-generation-preserved : goal.loop-generation-preserved
loop-generation-preserved c =
    let k = λ (o : Option ℕ). LookedUp c.args.self.now c.args.document c.args.path.now c.loop-generation.generation (Ok o) in
    elim c.match-branch-2.branch [
      | in-Some w ↦ rw w.newest-is (newer c.args.self.now c.args.document c.args.path.now c.loop-generation.generation _ c.loop-generation.newest (omega arith) (omega arith) c.loop-generation.invariant
          w.in-Some.place w.slot_at-slot.result (subst k w.in-Some.is c.in_ok-place.ensures) w.slot_at-slot.ensures.value w.slot_at-slot.ensures.within)
      | in_default w ↦ rw w.newest-is (no_newer c.args.self.now c.args.document c.args.path.now c.loop-generation.generation _ c.loop-generation.newest (omega arith) (omega arith) c.loop-generation.invariant
          (subst k w.in_default.is c.in_ok-place.ensures))
    ]

pub returns-after-branch-2 : goal.returns-after-branch-2
returns-after-branch-2 c =
    let k = λ (o : Option ℕ). LookedUp c.args.self.now c.args.document c.args.path.now c.loop-generation.generation (Ok o) in
    elim c.match-branch-2.branch [
      | in-Some w ↦ rw w.newest-is (newer c.args.self.now c.args.document c.args.path.now c.loop-generation.generation _ c.loop-generation.newest (omega arith) (omega arith) c.loop-generation.invariant
          w.in-Some.place w.slot_at-slot.result (subst k w.in-Some.is c.in_ok-place.ensures) w.slot_at-slot.ensures.value w.slot_at-slot.ensures.within)
      | in_default w ↦ rw w.newest-is (no_newer c.args.self.now c.args.document c.args.path.now c.loop-generation.generation _ c.loop-generation.newest (omega arith) (omega arith) c.loop-generation.invariant
          (subst k w.in_default.is c.in_ok-place.ensures))
    ]
