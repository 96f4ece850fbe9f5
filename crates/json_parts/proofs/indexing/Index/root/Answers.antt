use Rattle.std.proofs.Common.{sym, ◌∙◌, subst}
use Rattle.json_parts.specs.Indexed.{data_of}
use Rattle.json_parts.specs.Internal.Ordered.{IsOrdered}
use Rattle.json_parts.proofs.Order.{readable_ordered}
use Rattle.json_parts.proofs.indexing.Index.root.Goals as goal

pub returns-clause-ordered : goal.returns-clause-ordered
returns-clause-ordered c = subst (λ ts. IsOrdered (data_of ts)) (sym (c.new.ensures ∙ c.root.ensures)) (readable_ordered c.self.inside.tape c.self.invariant)
