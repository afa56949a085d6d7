-- What a writer has put down, and what a part of a tree adds to it.
use Rattle.std.specs.Prelude.{◌≡◌, ℕ, List, ◌++◌, length}
use Rattle.ci_base.specs.declared.value.Kind.{Kind}
use Rattle.ci_translation.specs.Drafts.{Draft, kinds_in, args_code}
use Rattle.ci_tree.specs.Bound.{Exprs}
use Rattle.ci_tree.specs.Sound.{Context}
use Rattle.ci_emit.specs.Pads.{Pad, wrote}

-- what has been put down, and the kinds of the operands that stand below what comes next
pub record Writing : Type 0 where
  pub pad : Pad
  pub below : List Kind

-- The code of a part is put down behind what was there: the code over the operands that stand there, which stay, and from the next
-- place on.
pub record Writes (old new : Writing) (code : List Kind → ℕ → List Draft) : Type 0 where
  pub pad : new.pad ≡ wrote old.pad (code old.below (length old.pad.steps))
  pub below : new.below ≡ old.below

-- The code of arguments is put down, whose values then stand there too.
pub record Argues (c : Context) (old new : Writing) (args : Exprs) : Type 0 where
  pub pad : new.pad ≡ wrote old.pad (args_code c old.below (length old.pad.steps) args)
  pub below : new.below ≡ old.below ++ kinds_in c args
