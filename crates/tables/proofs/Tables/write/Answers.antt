use Rattle.std.proofs.Common.{ℕ, subst}
use Rattle.tables.specs.Paths.{Wrote}
use Rattle.tables.proofs.PathWritten.{path_reply}
use Rattle.tables.proofs.Tables.write.Goals as goal

pub returns : goal.returns
returns c =
    let h = subst (λ (d : ℕ). Wrote c.args.self.now d c.args.path.now c.write_at.result c.write_at.new.self) c.place_for-document.ensures.value c.write_at.ensures in
    let r = path_reply c.args.self.now c.args.path.now c.requires c.write_at.result c.write_at.new.self h in
    record { sound = r.0; replies = r.1 }
