-- Examples: the code of each kind of expression and statement, and of a small source, as worked out by hand.
use Rattle.std.proofs.Common.{◌≡◌, ℕ, true, false, List, [], ◌∷◌, map, Some, None, refl}
use Rattle.std.specs.Prelude.{pos}
use Rattle.ci_base.specs.declared.function.PrivateName.TheVariants as private
use Rattle.ci_base.specs.declared.function.SharedName.TheVariants as shared
use Rattle.ci_base.specs.declared.relation.Relation.TheVariants as relation
use Rattle.ci_base.specs.declared.value.Kind.{Kind}
use Rattle.ci_base.specs.declared.value.Kind.TheVariants.{Int, Str}
use Rattle.ci_base.specs.declared.value.Value.TheVariants as values
use Rattle.ci_code.specs.declared.instruction.Instruction.{Instruction}
use Rattle.ci_code.specs.declared.instruction.Instruction.TheVariants as does
use Rattle.ci_code.specs.declared.instruction.Step.{Step}
use Rattle.ci_tree.specs.declared.tree.Operator.TheVariants as op
use Rattle.ci_tree.specs.Bound as to
use Rattle.ci_tree.specs.Bound.{Scalar, Expr, Call, Stmt, Block, Function, Project, links_from, exprs_from, block_from, clauses_from, done}
use Rattle.ci_tree.specs.Sound.{Context, context_of}
use Rattle.ci_translation.specs.Drafts.{Doing, push_text, plain, Draft, expr_code, call_code, stmt_code, function_code}
use Rattle.ci_translation.specs.Translation.{texts, translation}

-- A project: INT Main() with the locals INT 0 and STRING 1, and STRING F(INT a, STRING b = "d"); an INT cell, a STRING cell, and an
-- array of the first

abbrev main : Function
main = record { file = 0; name = 77 ∷ []; public = true; gives = Some Int; params = []; others = Int ∷ Str ∷ []; body = done }

abbrev f : Function
f = record {
  file = 0;
  name = 70 ∷ [];
  public = true;
  gives = Some Str;
  params = record { kind = Int; first = None } ∷ record { kind = Str; first = Some (values.Str (100 ∷ [])) } ∷ [];
  others = [];
  body = done;
}

abbrev project : Project
project = record {
  functions = main ∷ f ∷ [];
  cells = record { kind = Int; first = values.Int (pos 0) } ∷ record { kind = Str; first = values.Str [] } ∷ [];
  arrays = record { first = 0; kind = Int; length = 1 } ∷ [];
  globals = [];
}

abbrev c : Context
c = context_of project main

-- the instructions alone, and the shapes alone
abbrev doings : List Draft → List Doing
doings ds = map (λ (d : Draft). d.doing) ds

abbrev befores : List Draft → List (List Kind)
befores ds = map (λ (d : Draft). d.before) ds

abbrev int : ℕ → Expr
int n = to.number (pos n)

abbrev i : Expr
i = to.scalar (to.local 0)

abbrev s : Expr
s = to.scalar (to.local 1)

abbrev x : List ℕ
x = 120 ∷ []

-- Expressions

variables : (doings (expr_code c [] 5 i) ≡ plain (does.Load 0) ∷ []) × (doings (expr_code c [] 5 (to.scalar (to.cell 1))) ≡ plain (does.ReadCell 1) ∷ [])
variables = (refl, refl)

elements : (doings (expr_code c [] 5 (to.element 0 i)) ≡ plain (does.Load 0) ∷ plain (does.ReadAt 0) ∷ []) × (befores (expr_code c (Str ∷ []) 5 (to.element 0 i)) ≡ (Str ∷ []) ∷ (Str ∷ Int ∷ []) ∷ [])
elements = (refl, refl)

signs : (doings (expr_code c [] 5 (to.unary true i)) ≡ plain (does.Load 0) ∷ plain does.Neg ∷ []) × (doings (expr_code c [] 5 (to.unary false i)) ≡ plain (does.Load 0) ∷ plain does.Not ∷ [])
signs = (refl, refl)

-- both sides of AND are evaluated; `i AND 2 * 3` is a chain of its operators in order, the right ones grouped already
conjunctions : doings (expr_code c [] 5 (to.chain i (links_from (to.operand_link op.And (int 2) ∷ to.operand_link op.Minus (int 3) ∷ []))))
    ≡ plain (does.Load 0) ∷ plain (does.PushInt (pos 2)) ∷ plain does.And ∷ plain (does.PushInt (pos 3)) ∷ plain does.Sub ∷ []
conjunctions = refl

chain_shapes : befores (expr_code c [] 5 (to.chain i (links_from (to.operand_link op.And (int 2) ∷ []))))
    ≡ [] ∷ (Int ∷ []) ∷ (Int ∷ Int ∷ []) ∷ []
chain_shapes = refl

texts_compared : doings (expr_code c [] 5 (to.chain s (links_from (to.operand_link op.Less (to.literal x) ∷ []))))
    ≡ plain (does.Load 1) ∷ push_text x ∷ plain (does.CmpStr relation.Less) ∷ []
texts_compared = refl

-- a text behind `+` stays a text; what a comparison leaves is an INT
texts_joined : doings (expr_code c [] 5 (to.chain s (links_from (to.operand_link op.Plus (to.literal x) ∷ to.operand_link op.Equal s ∷ to.operand_link op.Plus i ∷ []))))
    ≡ plain (does.Load 1) ∷ push_text x ∷ plain does.Cat ∷ plain (does.Load 1) ∷ plain (does.CmpStr relation.Equal) ∷ plain (does.Load 0) ∷ plain does.Add ∷ []
texts_joined = refl

formats : doings (expr_code c [] 5 (to.chain i (links_from (to.hashes_link 2 ∷ to.operand_link op.Plus s ∷ []))))
    ≡ plain (does.Load 0) ∷ plain (does.Form 2) ∷ plain (does.Load 1) ∷ plain does.Cat ∷ []
formats = refl

-- F(3), whose second argument is left out
calls : (doings (call_code c [] 5 (to.call (to.function 1) 1 (exprs_from (int 3 ∷ to.literal (100 ∷ []) ∷ [])))) ≡ plain (does.PushInt (pos 3)) ∷ push_text (100 ∷ []) ∷ plain (does.Call 1) ∷ [])
    × (befores (call_code c (Int ∷ []) 5 (to.call (to.function 1) 1 (exprs_from (int 3 ∷ to.literal (100 ∷ []) ∷ [])))) ≡ (Int ∷ []) ∷ (Int ∷ Int ∷ []) ∷ (Int ∷ Int ∷ Str ∷ []) ∷ [])
calls = (refl, refl)

calls_of_others : (doings (call_code c [] 5 (to.call (to.private private.IsError) 0 (exprs_from []))) ≡ plain (does.Private private.IsError) ∷ [])
    × (doings (call_code c [] 5 (to.call (to.shared shared.Sleep) 1 (exprs_from (i ∷ [])))) ≡ plain (does.Load 0) ∷ plain (does.Ask shared.Sleep) ∷ [])
calls_of_others = (refl, refl)

-- QueRead(5, i, s, 0) from place 10 on
reads : doings (call_code c [] 10 (to.que_read (int 5) (to.local 0) (to.local 1) (int 0)))
    ≡ plain (does.PushInt (pos 5))
    ∷ plain (does.PushInt (pos 0))
    ∷ plain (does.Ask shared.QueRead)
    ∷ plain does.Dup
    ∷ plain (does.JumpIfZero 16)
    ∷ plain (does.Jump 20)
    ∷ plain does.TakeSort
    ∷ plain (does.Store 0)
    ∷ plain does.TakeText
    ∷ plain (does.Store 1)
    ∷ []
reads = refl

reads_shapes : befores (call_code c [] 10 (to.que_read (int 5) (to.local 0) (to.local 1) (int 0)))
    ≡ []
    ∷ (Int ∷ [])
    ∷ (Int ∷ Int ∷ [])
    ∷ (Int ∷ [])
    ∷ (Int ∷ Int ∷ [])
    ∷ (Int ∷ [])
    ∷ (Int ∷ [])
    ∷ (Int ∷ Int ∷ [])
    ∷ (Int ∷ [])
    ∷ (Int ∷ Str ∷ [])
    ∷ []
reads_shapes = refl

-- Statements, from place 1 on

-- i = n
abbrev set : ℕ → Stmt
set n = to.assign 0 (to.local 0) (int n)

assignments : (doings (stmt_code c [] 1 (set 3)) ≡ plain does.Tick ∷ plain (does.PushInt (pos 3)) ∷ plain (does.Store 0) ∷ [])
    × (doings (stmt_code c [] 1 (to.assign 0 (to.cell 1) s)) ≡ plain does.Tick ∷ plain (does.Load 1) ∷ plain (does.WriteCell 1) ∷ [])
    × (doings (stmt_code c [] 1 (to.assign_element 0 0 i (int 4))) ≡ plain does.Tick ∷ plain (does.Load 0) ∷ plain (does.PushInt (pos 4)) ∷ plain (does.WriteAt 0) ∷ [])
assignments = (refl, refl, refl)

-- the value is dropped, whatever its kind
statements_of_calls : (befores (stmt_code c [] 1 (to.call_of 0 (to.call (to.function 1) 2 (exprs_from (i ∷ s ∷ []))))) ≡ [] ∷ [] ∷ (Int ∷ []) ∷ (Int ∷ Str ∷ []) ∷ (Str ∷ []) ∷ [])
    × (doings (stmt_code c [] 1 (to.call_of 0 (to.call (to.function 1) 2 (exprs_from (i ∷ s ∷ []))))) ≡ plain does.Tick ∷ plain (does.Load 0) ∷ plain (does.Load 1) ∷ plain (does.Call 1) ∷ plain does.Drop ∷ [])
statements_of_calls = (refl, refl)

chooses : doings (stmt_code c [] 1 (to.choose 0 i (block_from (set 1 ∷ [])) to.no_other))
    ≡ plain does.Tick ∷ plain (does.Load 0) ∷ plain (does.JumpIfZero 7) ∷ plain does.Tick ∷ plain (does.PushInt (pos 1)) ∷ plain (does.Store 0) ∷ []
chooses = refl

chooses_else : doings (stmt_code c [] 1 (to.choose 0 i (block_from (set 1 ∷ [])) (to.other (block_from (set 2 ∷ [])))))
    ≡ plain does.Tick
    ∷ plain (does.Load 0)
    ∷ plain (does.JumpIfZero 8)
    ∷ plain does.Tick
    ∷ plain (does.PushInt (pos 1))
    ∷ plain (does.Store 0)
    ∷ plain (does.Jump 11)
    ∷ plain does.Tick
    ∷ plain (does.PushInt (pos 2))
    ∷ plain (does.Store 0)
    ∷ []
chooses_else = refl

turns : doings (stmt_code c [] 1 (to.while 0 i (block_from (set 1 ∷ []))))
    ≡ plain does.Tick
    ∷ plain does.Tick
    ∷ plain (does.Load 0)
    ∷ plain (does.JumpIfZero 9)
    ∷ plain does.Tick
    ∷ plain (does.PushInt (pos 1))
    ∷ plain (does.Store 0)
    ∷ plain (does.Jump 2)
    ∷ []
turns = refl

-- FOR i = 1 TO 5 DO s = "x"; END: the last value is evaluated once
counts : doings (stmt_code c [] 1 (to.for 0 (to.local 0) (int 1) (int 5) (block_from (to.assign 0 (to.local 1) (to.literal x) ∷ []))))
    ≡ plain does.Tick
    ∷ plain (does.PushInt (pos 1))
    ∷ plain (does.PushInt (pos 5))
    ∷ plain does.Swap
    ∷ plain (does.Store 0)
    ∷ plain does.Tick
    ∷ plain does.Dup
    ∷ plain (does.Load 0)
    ∷ plain (does.CmpInt relation.AtLeast)
    ∷ plain (does.JumpIfZero 24)
    ∷ plain does.Tick
    ∷ push_text x
    ∷ plain (does.Store 1)
    ∷ plain (does.Load 0)
    ∷ plain does.Dup
    ∷ plain (does.PushInt (pos 2147483647))
    ∷ plain (does.CmpInt relation.Unequal)
    ∷ plain (does.JumpIfZero 23)
    ∷ plain (does.PushInt (pos 1))
    ∷ plain does.Add
    ∷ plain (does.Store 0)
    ∷ plain (does.Jump 6)
    ∷ plain does.Drop
    ∷ plain does.Drop
    ∷ []
counts = refl

counts_shapes : befores (stmt_code c [] 1 (to.for 0 (to.local 0) (int 1) (int 5) (block_from [])))
    ≡ []
    ∷ []
    ∷ (Int ∷ [])
    ∷ (Int ∷ Int ∷ [])
    ∷ (Int ∷ Int ∷ [])
    ∷ (Int ∷ [])
    ∷ (Int ∷ [])
    ∷ (Int ∷ Int ∷ [])
    ∷ (Int ∷ Int ∷ Int ∷ [])
    ∷ (Int ∷ Int ∷ [])
    ∷ (Int ∷ [])
    ∷ (Int ∷ Int ∷ [])
    ∷ (Int ∷ Int ∷ Int ∷ [])
    ∷ (Int ∷ Int ∷ Int ∷ Int ∷ [])
    ∷ (Int ∷ Int ∷ Int ∷ [])
    ∷ (Int ∷ Int ∷ [])
    ∷ (Int ∷ Int ∷ Int ∷ [])
    ∷ (Int ∷ Int ∷ [])
    ∷ (Int ∷ [])
    ∷ (Int ∷ Int ∷ [])
    ∷ (Int ∷ [])
    ∷ []
counts_shapes = refl

-- SELECT CASE i CASE 1, 2 TO 3 i = 7; CASE IS > 4 i = 8; CASE ELSE i = 9; END SELECT
abbrev selected : Stmt
selected = to.select 0 i
    (clauses_from (record { labels = to.one (int 1) ∷ to.range (int 2) (int 3) ∷ []; body = block_from (set 7 ∷ []) } ∷ record { labels = to.compared relation.Greater (int 4) ∷ []; body = block_from (set 8 ∷ []) } ∷ []))
    (block_from (set 9 ∷ []))

selects : doings (stmt_code c [] 1 selected)
    ≡ plain does.Tick
    ∷ plain (does.Load 0)
    ∷ plain does.Dup
    ∷ plain (does.PushInt (pos 1))
    ∷ plain (does.CmpInt relation.Equal)
    ∷ plain (does.JumpIfZero 8)
    ∷ plain (does.Jump 15)
    ∷ plain does.Dup
    ∷ plain (does.PushInt (pos 2))
    ∷ plain (does.PushInt (pos 3))
    ∷ plain does.WithinInt
    ∷ plain (does.JumpIfZero 14)
    ∷ plain (does.Jump 15)
    ∷ plain (does.Jump 20)
    ∷ plain does.Drop
    ∷ plain does.Tick
    ∷ plain (does.PushInt (pos 7))
    ∷ plain (does.Store 0)
    ∷ plain (does.Jump 35)
    ∷ plain does.Dup
    ∷ plain (does.PushInt (pos 4))
    ∷ plain (does.CmpInt relation.Greater)
    ∷ plain (does.JumpIfZero 25)
    ∷ plain (does.Jump 26)
    ∷ plain (does.Jump 31)
    ∷ plain does.Drop
    ∷ plain does.Tick
    ∷ plain (does.PushInt (pos 8))
    ∷ plain (does.Store 0)
    ∷ plain (does.Jump 35)
    ∷ plain does.Drop
    ∷ plain does.Tick
    ∷ plain (does.PushInt (pos 9))
    ∷ plain (does.Store 0)
    ∷ []
selects = refl

-- a SELECT on a text, with no clause: nothing but the subject is evaluated
selects_nothing : befores (stmt_code c [] 1 (to.select 0 s (clauses_from []) done)) ≡ [] ∷ [] ∷ (Str ∷ []) ∷ []
selects_nothing = refl

returns : (doings (stmt_code c [] 1 (to.return 0 i)) ≡ plain does.Tick ∷ plain (does.Load 0) ∷ plain does.Return ∷ [])
    × (doings (function_code project f) ≡ plain does.Tick ∷ push_text [] ∷ plain does.Return ∷ [])
returns = (refl, refl)

-- Sources

-- FUNCTION Main() with TraceMsg of these texts
abbrev traces : List (List ℕ) → Project
traces ss = record {
  functions = record {
    file = 0;
    name = 77 ∷ 97 ∷ 105 ∷ 110 ∷ [];
    public = true;
    gives = None;
    params = [];
    others = [];
    body = block_from (map (λ (text : List ℕ). to.call_of 0 (to.call (to.shared shared.Trace) 1 (exprs_from (to.literal text ∷ [])))) ss);
  } ∷ [];
  cells = [];
  arrays = [];
  globals = [];
}

abbrev at : ℕ → Instruction → Step
at shape what = record { shape = shape; what = what }

-- FUNCTION Main() TraceMsg("hi"); END
small : translation (traces ((104 ∷ 105 ∷ []) ∷ []))
    ≡ record {
      layout = record { functions = record { name = 77 ∷ 97 ∷ 105 ∷ 110 ∷ []; public = true; kinds = []; defaults = [] } ∷ []; cells = []; globals = [] };
      texts = (104 ∷ 105 ∷ []) ∷ [];
      arrays = [];
      shapes = [] ∷ (Str ∷ []) ∷ (Int ∷ []) ∷ [];
      functions = record {
        gives = None;
        room = 1;
        locals = [];
        steps = at 0 does.Tick ∷ at 0 does.Tick ∷ at 0 (does.PushStr 0) ∷ at 1 (does.Ask shared.Trace) ∷ at 2 does.Drop ∷ at 0 (does.PushInt (pos 0)) ∷ at 2 does.Return ∷ [];
      } ∷ [];
    }
small = refl

-- each text stands once in the table, in the order of first use
texts_once : texts (traces ((98 ∷ []) ∷ (97 ∷ []) ∷ (98 ∷ []) ∷ [])) ≡ (98 ∷ []) ∷ (97 ∷ []) ∷ []
texts_once = refl
