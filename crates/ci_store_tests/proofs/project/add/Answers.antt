use Rattle.std.proofs.Common.{List, sym, subst}
use Rattle.ci_base.specs.declared.layout.Head.{Head}
use Rattle.ci_tasktab.specs.Births.{IsWithin}
use Rattle.ci_store_tests.proofs.Putting.{within_either}
use Rattle.ci_store_tests.proofs.project.add.Goals as goal

pub returns : goal.returns
returns c =
    subst (λ (l : List Head). IsWithin l) (sym c.push.ensures.items) (within_either _ c.args.heads.now.items c.args.head c.requires.within c.requires.few c.requires.short)
