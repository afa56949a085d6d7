-- One member of a chain.
use Rattle.std.specs.Prelude.{List, ◌++◌, Option}
use Rattle.ci_base.specs.declared.value.Kind.{Kind}
use Rattle.ci_tree.specs.Operators.{joins, joined, formed}
use Rattle.ci_tree.specs.Tree as from
use Rattle.ci_tree.specs.Bound as to
use Rattle.ci_names.specs.declared.fault.Fault.{Fault}
use Rattle.ci_names.specs.Scopes.{Scope}
use Rattle.ci_names.specs.Kinds.{kind_of}
use Rattle.ci_names.specs.Expressions.{operation, int_operand, expr_faults}
use Rattle.ci_names.specs.Binding.{bound_expr}

-- the kind of a chain behind the member, where those before it have this kind
abbrev pub link_kind : Scope → Option Kind → from.Link → Option Kind
link_kind s left (from.operand_link at op right) = joined (joins op) left (kind_of s right)
link_kind s left (from.hashes_link at count) = formed left

abbrev pub link_faults : Scope → Option Kind → from.Link → List Fault
link_faults s left (from.operand_link at op right) = operation s at op left (kind_of s right) ++ expr_faults s right
link_faults s left (from.hashes_link at count) = int_operand s at left

abbrev pub bound_link : Scope → from.Link → to.Link
bound_link s (from.operand_link at op right) = to.operand_link op (bound_expr s right)
bound_link s (from.hashes_link at count) = to.hashes_link count
