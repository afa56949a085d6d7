-- Which instruction stands for which part of a tree.
use Rattle.std.specs.Prelude.{ℕ, zero, suc, ◌+◌, pos, Bool, true, false, Option, Some, unwrap_or}
use Rattle.ci_base.specs.declared.relation.Relation.{Relation}
use Rattle.ci_base.specs.declared.relation.Relation.TheVariants as relation
use Rattle.ci_base.specs.declared.value.Kind.{Kind}
use Rattle.ci_base.specs.declared.value.Kind.TheVariants.{Int, Str}
use Rattle.ci_code.specs.declared.instruction.Instruction.{Instruction}
use Rattle.ci_code.specs.declared.instruction.Instruction.TheVariants as does
use Rattle.ci_tree.specs.declared.tree.Operator.{Operator}
use Rattle.ci_tree.specs.declared.tree.Operator.TheVariants as op
use Rattle.ci_tree.specs.Bound as to
use Rattle.ci_tree.specs.Bound.{Scalar, Callee}
use Rattle.ci_tree.specs.Operators.{joins, joined}

-- so many places behind a place
abbrev pub past : ℕ → ℕ → ℕ
past zero p = p
past (suc n) p = past n p + 1

-- the comparison of two values of a kind
abbrev pub comparing : Relation → Kind → Instruction
comparing r Int = does.CmpInt r
comparing r Str = does.CmpStr r

-- the test whether the first of three values of a kind lies from the second to the third
abbrev pub within : Kind → Instruction
within Int = does.WithinInt
within Str = does.WithinStr

abbrev pub adding : Kind → Instruction
adding Int = does.Add
adding Str = does.Cat

-- an operator between two values of a kind
abbrev pub operating : Operator → Kind → Instruction
operating op.Plus kind = adding kind
operating op.Minus kind = does.Sub
operating op.Times kind = does.Mul
operating op.Over kind = does.Div
operating op.Mod kind = does.Mod
operating op.And kind = does.And
operating op.Or kind = does.Or
operating op.BitAnd kind = does.BitAnd
operating op.BitOr kind = does.BitOr
operating op.BitXor kind = does.BitXor
operating op.Equal kind = comparing relation.Equal kind
operating op.Unequal kind = comparing relation.Unequal kind
operating op.Less kind = comparing relation.Less kind
operating op.Greater kind = comparing relation.Greater kind
operating op.AtMost kind = comparing relation.AtMost kind
operating op.AtLeast kind = comparing relation.AtLeast kind

-- the kind of what an operator gives between two values of a kind, where it takes such
abbrev pub operated : Operator → Kind → Option Kind
operated o kind = joined (joins o) (Some kind) (Some kind)

-- `-`, where minus, or NOT
abbrev pub turning : Bool → Instruction
turning true = does.Neg
turning false = does.Not

-- a variable is read, or written
abbrev pub reading : Scalar → Instruction
reading (to.local i) = does.Load i
reading (to.cell c) = does.ReadCell c

abbrev pub writing : Scalar → Instruction
writing (to.local i) = does.Store i
writing (to.cell c) = does.WriteCell c

-- a call is made
abbrev pub calling : Callee → Instruction
calling (to.function f) = does.Call f
calling (to.private q) = does.Private q
calling (to.shared q) = does.Ask q

-- the kind of what a function leaves: one without a kind leaves an INT that nobody reads
abbrev pub left_kind : Option Kind → Kind
left_kind gives = unwrap_or gives Int

-- the largest INT, at which FOR ends
abbrev pub largest : Instruction
largest = does.PushInt (pos 2147483647)
