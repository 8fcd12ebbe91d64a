use Rattle.std.proofs.Common.{rules, ◌≡◌, replicate, Some, None, Option, vec_items, ap}
use Rattle.std.specs.List.{each_same}
use Rattle.block.proofs.array.BlockArray.new.Goals as goal

-- what resembles Some x only if it has a part that is x, is Some x
some_only : {X : Type 0} (P : Option X → Type 0) (x : X) → (P None → ⊥) → ((y : X) → P (Some y) → y ≡ x) → (o : Option X) → P o → o ≡ Some x
some_only P x none same None p = absurd (none p)
some_only P x none same (Some y) p = ap Some (same y p)

pub returns : goal.returns
returns c =
    let zeros : vec_items c.in_ok-vec.field-0 ≡ replicate c.args.count (Some (replicate 512 0)) =
    c.in_ok-vec.ensures.items_if_clones_equal (some_only _ _ (λ k. k) (λ ys k. each_same _ _ k.whole)) in
    search rules
