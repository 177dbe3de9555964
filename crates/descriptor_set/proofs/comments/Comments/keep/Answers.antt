use Rattle.descriptor_set.proofs.FoundComments.{kept_at}
use Rattle.descriptor_set.proofs.comments.Comments.keep.Goals as goal

pub returns-in_ok-insert : goal.returns-in_ok-insert
returns-in_ok-insert c = λ path.
    kept_at c.args.self.now.by_path c.insert.new.self c.in_ok-path.path path c.in_ok-comment.comment
    c.args.location.now (c.in_ok-insert.ensures.updates.0 path) (cc) c.in_ok-path.ensures c.in_ok-comment.ensures (cc)
