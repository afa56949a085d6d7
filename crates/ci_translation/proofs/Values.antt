-- The instruction of an operator does on operands what the operator does on values.
use Rattle.std.proofs.Common.{◌≡◌, ℕ, Bool, true, false, List, [], ◌∷◌, Some, Ok, Err, refl, ap, ◌∙◌}
use Rattle.std.proofs.lemmas.Cmp.{int_cmp_total}
use Rattle.std.specs.declared.cmp.Ordering.{Ordering}
use Rattle.std.specs.declared.cmp.Ordering.TheVariants.{Less, Equal, Greater}
use Rattle.std.specs.Ordering.{is_eq, is_ne, is_le, is_ge, int_cmp, int_eq, ordering_reverse}
use Rattle.std.specs.Prelude.{ℤ, not}
use Rattle.ci_base.specs.declared.function.SharedName.{SharedName}
use Rattle.ci_base.specs.declared.function.SharedName.TheVariants as names
use Rattle.ci_base.specs.declared.relation.Relation.{Relation}
use Rattle.ci_base.specs.declared.relation.Relation.TheVariants as relation
use Rattle.ci_base.specs.declared.reply.Answer.{Answer}
use Rattle.ci_base.specs.declared.request.Request.{Request}
use Rattle.ci_base.specs.declared.request.Request.TheVariants as requests
use Rattle.ci_base.specs.declared.value.Kind.{Kind}
use Rattle.ci_base.specs.declared.value.Kind.TheVariants as kinds
use Rattle.ci_base.specs.declared.value.Value.{Value}
use Rattle.ci_base.specs.declared.value.Value.TheVariants.{Int, Str}
use Rattle.ci_base.specs.Arithmetic.{quotient, remainder}
use Rattle.ci_base.specs.Comparisons.{holds, within}
use Rattle.ci_base.specs.Requests.{Fits, request_of, plain_request, int_request, text_request, ints_request, text_int_request, texts_int_request, ints_text_request}
use Rattle.ci_base.specs.Steps.{quiet}
use Rattle.ci_base.specs.TextFunctions.{joined}
use Rattle.ci_base.specs.Values.{Outcome, is_zero, truth, kind_of}
use Rattle.ci_code.specs.declared.raw.RawParts.{RawParts}
use Rattle.ci_code.specs.Machine.{act}
use Rattle.ci_code.specs.Moves as code
use Rattle.ci_code.specs.Moves.{Machine}
use Rattle.ci_meaning.specs.Operators.{operate}
use Rattle.ci_tree.specs.declared.tree.Operator.{Operator}
use Rattle.ci_tree.specs.declared.tree.Operator.TheVariants as op
use Rattle.ci_verify.proofs.Outcomes.{OfKind, quotient_kind, remainder_kind, joined_kind}
use Rattle.ci_translation.specs.Instructions as instructions
use Rattle.ci_translation.specs.Instructions.{comparing, operating, operated}

-- that machine with these operands
abbrev pub over : Machine → List Value → Machine
over m ops = record m { top = record { function = m.top.function; place = m.top.place; locals = m.top.locals; operands = ops } }

-- the kind of what stands behind an outcome
abbrev pub outcome_kind : Kind → Outcome → Kind
outcome_kind kind (Ok v) = kind_of v
outcome_kind kind (Err c) = kind

pub of_kind : (kind : Kind) (o : Outcome) → OfKind kind o → outcome_kind kind o ≡ kind
of_kind kind (Ok v) h = h
of_kind kind (Err c) h = refl

-- it does, and leaves a value of that kind
abbrev Acts : RawParts → Operator → Value → Value → Kind → List Value → Machine → Type 0
Acts c o u v j below m =
    (act c (operating o (kind_of u)) (over m (v ∷ u ∷ below)) ≡ code.came (kind_of u) (operate o u v) below (over m (v ∷ u ∷ below))) × (outcome_kind (kind_of u) (operate o u v) ≡ j)

ints_act : (c : RawParts) (o : Operator) (a b : ℤ) (j : Kind) (below : List Value) (m : Machine) → operated o kinds.Int ≡ Some j → Acts c o (Int a) (Int b) j below m
ints_act c op.Plus a b j below m e = (refl, cc e)
ints_act c op.Minus a b j below m e = (refl, cc e)
ints_act c op.Times a b j below m e = (refl, cc e)
ints_act c op.Over a b j below m e = let k : kinds.Int ≡ j = cc e in (refl, of_kind kinds.Int (quotient a b) (quotient_kind a b) ∙ k)
ints_act c op.Mod a b j below m e = let k : kinds.Int ≡ j = cc e in (refl, of_kind kinds.Int (remainder a b) (remainder_kind a b) ∙ k)
ints_act c op.And a b j below m e = (refl, cc e)
ints_act c op.Or a b j below m e = (refl, cc e)
ints_act c op.BitAnd a b j below m e = (refl, cc e)
ints_act c op.BitOr a b j below m e = (refl, cc e)
ints_act c op.BitXor a b j below m e = (refl, cc e)
ints_act c op.Equal a b j below m e = (refl, cc e)
ints_act c op.Unequal a b j below m e = (refl, cc e)
ints_act c op.Less a b j below m e = (refl, cc e)
ints_act c op.Greater a b j below m e = (refl, cc e)
ints_act c op.AtMost a b j below m e = (refl, cc e)
ints_act c op.AtLeast a b j below m e = (refl, cc e)

texts_act : (c : RawParts) (o : Operator) (a b : List ℕ) (j : Kind) (below : List Value) (m : Machine) → operated o kinds.Str ≡ Some j → Acts c o (Str a) (Str b) j below m
texts_act c op.Plus a b j below m e = let k : kinds.Str ≡ j = cc e in (refl, of_kind kinds.Str (joined a b) (joined_kind a b) ∙ k)
texts_act c op.Equal a b j below m e = (refl, cc e)
texts_act c op.Unequal a b j below m e = (refl, cc e)
texts_act c op.Less a b j below m e = (refl, cc e)
texts_act c op.Greater a b j below m e = (refl, cc e)
texts_act c op.AtMost a b j below m e = (refl, cc e)
texts_act c op.AtLeast a b j below m e = (refl, cc e)
texts_act c _ a b j below m e = absurd (cc e)

pub operator_acts : (c : RawParts) (o : Operator) (u v : Value) (j : Kind) (below : List Value) (m : Machine) → kind_of v ≡ kind_of u → operated o (kind_of u) ≡ Some j → Acts c o u v j below m
operator_acts c o (Int a) (Int b) j below m k e = ints_act c o a b j below m e
operator_acts c o (Str a) (Str b) j below m k e = texts_act c o a b j below m e
operator_acts c o (Int a) (Str b) j below m k e = absurd (cc k)
operator_acts c o (Str a) (Int b) j below m k e = absurd (cc k)

pub comparing_acts : (c : RawParts) (r : Relation) (u v : Value) (below : List Value) (m : Machine) → kind_of v ≡ kind_of u → act c (comparing r (kind_of u)) (over m (v ∷ u ∷ below)) ≡ quiet (code.on (Int (truth (holds r u v)) ∷ below) (over m (v ∷ u ∷ below)))
comparing_acts c r (Int a) (Int b) below m k = refl
comparing_acts c r (Str a) (Str b) below m k = refl
comparing_acts c r (Int a) (Str b) below m k = absurd (cc k)
comparing_acts c r (Str a) (Int b) below m k = absurd (cc k)

pub within_acts : (c : RawParts) (u low v : Value) (below : List Value) (m : Machine) → kind_of v ≡ kind_of u → kind_of low ≡ kind_of u → act c (instructions.within (kind_of u)) (over m (v ∷ low ∷ u ∷ below)) ≡ quiet (code.on (Int (truth (within u low v)) ∷ below) (over m (v ∷ low ∷ u ∷ below)))
within_acts c (Int a) (Int b) (Int d) below m k l = refl
within_acts c (Str a) (Str b) (Str d) below m k l = refl
within_acts c (Int a) (Str b) v below m k l = absurd (cc l)
within_acts c (Str a) (Int b) v below m k l = absurd (cc l)
within_acts c (Int a) (Int b) (Str d) below m k l = absurd (cc k)
within_acts c (Str a) (Str b) (Int d) below m k l = absurd (cc k)

-- FOR's tests

reversed : (o : Ordering) → is_ge (ordering_reverse o) ≡ is_le o
reversed Less = refl
reversed Equal = refl
reversed Greater = refl

pub at_least_last : (last v : ℤ) → holds relation.AtLeast (Int last) (Int v) ≡ holds relation.AtMost (Int v) (Int last)
at_least_last last v = ap is_ge (int_cmp_total.antisymm last v) ∙ reversed (int_cmp v last)

differs : (o : Ordering) → is_ne o ≡ not (is_eq o)
differs Less = refl
differs Equal = refl
differs Greater = refl

pub unequal : (a b : ℤ) → holds relation.Unequal (Int a) (Int b) ≡ not (int_eq a b)
unequal a b = differs (int_cmp a b)

pub truth_zero : (b : Bool) → is_zero (truth b) ≡ not b
truth_zero true = refl
truth_zero false = refl

-- Answers to what the shared functions ask for

abbrev IsAsk : Request → Type 0
IsAsk (requests.Read c) = ⊥
IsAsk (requests.Write c v) = ⊥
IsAsk _ = Unit {0}

ask_kind : (cells : List Kind) (r : Request) (a : Answer) → IsAsk r → Fits cells r a → kind_of a.value ≡ kinds.Int
ask_kind cells (requests.Read c) a h f = absurd h
ask_kind cells (requests.Write c v) a h f = absurd h
ask_kind cells (requests.QueRead n m) a h f = f.kind
ask_kind cells (requests.End n) a h f = absurd f
ask_kind cells _ a h f = f.kind

plain_asks : (q : SharedName) → IsAsk (plain_request q)
plain_asks names.SysTime = tt
plain_asks _ = tt

int_asks : (q : SharedName) (n : ℤ) → IsAsk (int_request q n)
int_asks names.TaskKill n = tt
int_asks _ n = tt

text_asks : (q : SharedName) (s : List ℕ) → IsAsk (text_request q s)
text_asks names.TaskHnd s = tt
text_asks _ s = tt

ints_asks : (q : SharedName) (a b : ℤ) → IsAsk (ints_request q a b)
ints_asks names.SemWait a b = tt
ints_asks _ a b = tt

text_int_asks : (q : SharedName) (s : List ℕ) (n : ℤ) → IsAsk (text_int_request q s n)
text_int_asks names.SemOpen s n = tt
text_int_asks _ s n = tt

texts_int_asks : (q : SharedName) (s t : List ℕ) (n : ℤ) → IsAsk (texts_int_request q s t n)
texts_int_asks names.TaskNew s t n = tt
texts_int_asks _ s t n = tt

ints_text_asks : (q : SharedName) (a b : ℤ) (s : List ℕ) → IsAsk (ints_text_request q a b s)
ints_text_asks names.QueWrite a b s = tt
ints_text_asks _ a b s = tt

asks_some : (q : SharedName) (args : List Value) → IsAsk (request_of q args)
asks_some q [] = plain_asks q
asks_some q (Int n ∷ []) = int_asks q n
asks_some q (Str s ∷ []) = text_asks q s
asks_some q (Int a ∷ Int b ∷ []) = ints_asks q a b
asks_some q (Str s ∷ Int n ∷ []) = text_int_asks q s n
asks_some q (Str s ∷ Str t ∷ Int n ∷ []) = texts_int_asks q s t n
asks_some q (Int a ∷ Int b ∷ Str s ∷ []) = ints_text_asks q a b s
asks_some q _ = tt

pub asked_kind : (cells : List Kind) (q : SharedName) (args : List Value) (a : Answer) → Fits cells (request_of q args) a → kind_of a.value ≡ kinds.Int
asked_kind cells q args a f = ask_kind cells (request_of q args) a (asks_some q args) f
