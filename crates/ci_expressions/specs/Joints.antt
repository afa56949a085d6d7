-- What joins the next member of a chain, as the code tells it.
use Rattle.std.specs.Prelude.{ℕ, Option, Some, None, option_map}
use Rattle.ci_tree.specs.declared.token.TokenKind.{TokenKind}
use Rattle.ci_tree.specs.declared.token.TokenKind.TheVariants.{Sign}
use Rattle.ci_tree.specs.declared.token.Sign.TheVariants as mark
use Rattle.ci_tree.specs.Grammar.{group_of, form_group}
use Rattle.ci_tree.specs.Refused as ask
use Rattle.ci_expressions.specs.declared.operators.Joint.{Joint}
use Rattle.ci_expressions.specs.declared.operators.Joint.TheVariants as joints

abbrev pub joint_of : Option Joint → ask.Joint
joint_of None = ask.no_joint
joint_of (Some (joints.Operator op)) = ask.by_operator op
joint_of (Some joints.Colon) = ask.by_colon

-- the group to whose chains the token joins one more member
abbrev pub joint_group : TokenKind → Option ℕ
joint_group (Sign mark.Colon) = Some form_group
joint_group t = option_map group_of (ask.operator_of_token t)
