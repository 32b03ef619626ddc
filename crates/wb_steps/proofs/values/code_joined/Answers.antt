use Rattle.wb_steps.proofs.Joining.{flat_joined, proper_joined, types_joined, settled_joined}
use Rattle.wb_steps.proofs.values.code_joined.Goals as goal

pub returns : goal.returns
returns c = record { flat = flat_joined; proper = proper_joined; types = types_joined; settled = settled_joined }
