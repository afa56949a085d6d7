-- Each name means something that is there, of the kind that it has.
use Rattle.std.specs.Prelude.{◌≡◌, refl, ℕ, zero, suc, ◌+◌, Bool, true, false, if◌then◌else◌, List, [], ◌∷◌, ◌++◌, length, map, take, drop, flat_map, replicate, find, codes, Option, Some, None, is_some, option_map, option_and_then, unwrap_or, slice_get}
use Rattle.std.specs.Option.{option_or}
use Rattle.std.specs.List.{list_all}
use Rattle.std.specs.Str.{str_eq_ignore_ascii_case}
use Rattle.std.proofs.Common.{sym, ap, ap₂, ◌∙◌, subst, inl, inr}
use Rattle.std.proofs.lemmas.Bool.{true≢false}
use Rattle.std.proofs.lemmas.List.{length-append, append_assoc, append-nil, length-replicate}
use Rattle.std.proofs.lemmas.List.Sums.{sum_by-cons}
use Rattle.std.proofs.lemmas.Grind.{flat_map-append}
use Rattle.std.proofs.lemmas.Option.{slice_get-map}
use Rattle.ci_base.specs.declared.value.Kind.{Kind}
use Rattle.ci_base.specs.declared.value.Kind.TheVariants.{Int, Str}
use Rattle.ci_base.specs.declared.value.Value.TheVariants as values
use Rattle.ci_base.specs.declared.function.PrivateName.{PrivateName}
use Rattle.ci_base.specs.declared.function.PrivateName.TheVariants as names
use Rattle.ci_base.specs.declared.function.SharedName.{SharedName}
use Rattle.ci_base.specs.declared.function.SharedName.TheVariants as requests
use Rattle.ci_base.specs.Functions.{private_takes, shared_takes}
use Rattle.ci_tree.specs.declared.tree.Length.{Length}
use Rattle.ci_tree.specs.declared.tree.Param.{Param}
use Rattle.ci_tree.specs.declared.tree.Const.{Const}
use Rattle.ci_tree.specs.Bound as to
use Rattle.ci_tree.specs.Sound.{Context, scalar_kind, array_kind, function_signature}
use Rattle.ci_names.specs.Given.{by_value, with_default, Called, Given, private_named, shared_named, private_functions, shared_functions, given_named}
use Rattle.ci_names.specs.Declarations.{Function, Variable, Declared, each_behind, kind_of_type, const_value, taken, heading_of, called_function, function_number, function_named, size_said, is_array_said, size_of, is_array, kind_of_variable, cells_of, arrays_of, variable_number}
use Rattle.ci_names.specs.Scopes.{Scope, Local, Meaning, scalar, array, only_function, nothing, local_named, variable_behind, variable_at, variable_named, no_variable, meaning, callee}
use Rattle.ci_tree.specs.BoundTests.{is_not_read}
use Rattle.ci_tree.specs.LeftOut.{Heads, firsts_of, shared_firsts, constants, call_given}
use Rattle.ci_names.specs.Binding.{heads_in, called_with, bound_param, bound_function, cell_of, bound_cells, bound_array, bound_declared}
use Rattle.ci_names.proofs.AllArguments.{default_of, none_left}
use Rattle.ci_names.proofs.Leads.{IsThere, Fits, taken_kind, is_right}

abbrev pub kinds : List Local → List Kind
kinds ls = map (λ (l : Local). l.kind) ls

-- a part of a function stands in this context: its locals are the first of all
pub record Stands (d : Declared) (c : Context) (s : Scope) : Type 0 where
  pub declared : s.declared ≡ d
  pub project : c.project ≡ bound_declared d
  pub gives : c.gives ≡ s.gives
  pub rest : List Kind
  pub locals : c.locals ≡ kinds s.locals ++ rest
  pub defaults : (n : ℕ) (f : Function) → slice_get d.functions n ≡ Some f → list_all is_right (heading_of f).takes ≡ true

none_some : {A B : Type 0} {x : A} → None ≡ Some x → B
none_some e = absurd (true≢false (sym (ap is_some e)))

pub slice_get_seam : {A : Type 0} (xs ys : List A) (y : A) → slice_get (xs ++ y ∷ ys) (length xs) ≡ Some y
slice_get_seam [] ys y = refl
slice_get_seam (x ∷ xs) ys y = slice_get_seam xs ys y

-- a list, cut where a member stands
pub cut_at : {A : Type 0} (xs : List A) (n : ℕ) (x : A) → slice_get xs n ≡ Some x → (ys : List A) × (xs ≡ take n xs ++ x ∷ ys)
cut_at [] n x h = none_some h
cut_at (y ∷ ys) zero x h = (ys, ap (λ o. unwrap_or o y ∷ ys) h)
cut_at (y ∷ ys) (suc n) x h = let found = cut_at ys n x h in (found.0, ap (λ zs. y ∷ zs) found.1)

abbrev some_or : {A : Type 0} → A → Option A → A
some_or d None = d
some_or d (Some x) = x

some_same : {A : Type 0} {x y : A} → Some x ≡ Some y → x ≡ y
some_same {A} {x} {y} e = ap (some_or x) e

abbrev pub IsMeant : Context → Meaning → Type 0
IsMeant c (scalar of kind) = scalar_kind c of ≡ Some kind
IsMeant c (array a kind) = array_kind c a ≡ Some kind
IsMeant c only_function = Unit {0}
IsMeant c nothing = Unit {0}

-- all that it gives is there
abbrev AreMeant : Context → Option Meaning → Type 0
AreMeant c o = (m : Meaning) → o ≡ Some m → IsMeant c m

meant_or : (c : Context) (l v : Option Meaning) (n : Meaning) → AreMeant c l → AreMeant c v → IsMeant c n → IsMeant c (unwrap_or (option_or l v) n)
meant_or c (Some m) v n hl hv hn = hl m refl
meant_or c None (Some m) n hl hv hn = hv m refl
meant_or c None None n hl hv hn = hn

no_variable_meant : (c : Context) (o : Option Called) → IsMeant c (no_variable o)
no_variable_meant c (Some called) = tt
no_variable_meant c None = tt

-- Locals

local_if : (c : Context) (i : ℕ) (kind : Kind) (b : Bool) (o : Option Meaning) → slice_get c.locals i ≡ Some kind → AreMeant c o → AreMeant c (if b then Some (scalar (to.local i) kind) else o)
local_if c i kind true o h next m e = subst (IsMeant c) (some_same e) h
local_if c i kind false o h next m e = next m e

local_meant : (c : Context) (before : List Kind) (ls : List Local) (rest : List Kind) (name : List ℕ) (i : ℕ) → i ≡ length before → c.locals ≡ before ++ (kinds ls ++ rest) → AreMeant c (local_named i ls name)
local_meant c before [] rest name i n h = λ m e. none_some e
local_meant c before (l ∷ ls) rest name i n h =
    local_if c i l.kind (str_eq_ignore_ascii_case l.name name) (local_named (i + 1) ls name)
    (ap₂ slice_get h n ∙ slice_get_seam before (kinds ls ++ rest) l.kind)
    (local_meant c (before ++ l.kind ∷ []) ls rest name (i + 1) (ap (λ x. x + 1) n ∙ sym (length-append before (l.kind ∷ []))) (h ∙ sym (append_assoc before (l.kind ∷ []) (kinds ls ++ rest))))

-- Variables

size_of_scalar : (l : Option Length) → is_array_said l ≡ false → size_said l ≡ 1
size_of_scalar None h = refl
size_of_scalar (Some l) h = absurd (true≢false h)

pub length_cells : (vs : List Variable) → length (flat_map bound_cells vs) ≡ cells_of vs
length_cells [] = refl
length_cells (v ∷ vs) =
    length-append (bound_cells v) (flat_map bound_cells vs)
    ∙ ap₂ (λ a b. a + b) (length-replicate (size_of v) (cell_of v)) (length_cells vs)
    ∙ sym (sum_by-cons size_of v vs)

-- the cell of a scalar
cell_there : (vs : List Variable) (n : ℕ) (v : Variable) → slice_get vs n ≡ Some v → is_array v ≡ false → slice_get (flat_map bound_cells vs) (cells_of (take n vs)) ≡ Some (cell_of v)
cell_there vs n v h scalar_ =
    let cut = cut_at vs n v h in
    ap₂ slice_get (ap (flat_map bound_cells) cut.1 ∙ flat_map-append bound_cells (take n vs) (v ∷ cut.0)) (sym (length_cells (take n vs)))
    ∙ ap (λ k. slice_get (flat_map bound_cells (take n vs) ++ (replicate k (cell_of v) ++ flat_map bound_cells cut.0)) (length (flat_map bound_cells (take n vs)))) (size_of_scalar v.length scalar_)
    ∙ slice_get_seam (flat_map bound_cells (take n vs)) (flat_map bound_cells cut.0) (cell_of v)

pub each_append : {A B : Type 0} (at : List A → A → List B) (before xs ys : List A) → each_behind at before (xs ++ ys) ≡ each_behind at before xs ++ each_behind at (before ++ xs) ys
each_append at before [] ys = ap (λ b. each_behind at b ys) (sym (append-nil before))
each_append at before (x ∷ xs) ys =
    ap (λ zs. at before x ++ zs) (each_append at (before ++ x ∷ []) xs ys)
    ∙ sym (append_assoc (at before x) (each_behind at (before ++ x ∷ []) xs) (each_behind at ((before ++ x ∷ []) ++ xs) ys))
    ∙ ap (λ b. (at before x ++ each_behind at (before ++ x ∷ []) xs) ++ each_behind at b ys) (append_assoc before (x ∷ []) xs)

one_if : (b : Bool) (a : to.Array) (n : ℕ) → length (if b then a ∷ [] else []) ≡ (if b then 1 else 0)
one_if true a n = refl
one_if false a n = refl

length_arrays : (before vs : List Variable) → length (each_behind bound_array before vs) ≡ arrays_of vs
length_arrays before [] = refl
length_arrays before (v ∷ vs) =
    length-append (bound_array before v) (each_behind bound_array (before ++ v ∷ []) vs)
    ∙ ap₂ (λ a b. a + b) (one_if (is_array v) (record { first = cells_of before; kind = kind_of_variable v; length = size_of v }) 0) (length_arrays (before ++ v ∷ []) vs)
    ∙ sym (sum_by-cons (λ x. if is_array x then 1 else 0) v vs)

array_there : (vs : List Variable) (n : ℕ) (v : Variable) → slice_get vs n ≡ Some v → is_array v ≡ true →
    slice_get (each_behind bound_array [] vs) (arrays_of (take n vs)) ≡ Some (record { first = cells_of (take n vs); kind = kind_of_variable v; length = size_of v })
array_there vs n v h is =
    let cut = cut_at vs n v h in
    ap₂ slice_get (ap (each_behind bound_array []) cut.1 ∙ each_append bound_array [] (take n vs) (v ∷ cut.0)) (sym (length_arrays [] (take n vs)))
    ∙ ap (λ b. slice_get (each_behind bound_array [] (take n vs) ++ ((if b then record { first = cells_of (take n vs); kind = kind_of_variable v; length = size_of v } ∷ [] else []) ++ each_behind bound_array (take n vs ++ v ∷ []) cut.0)) (length (each_behind bound_array [] (take n vs)))) is
    ∙ slice_get_seam (each_behind bound_array [] (take n vs)) (each_behind bound_array (take n vs ++ v ∷ []) cut.0) (record { first = cells_of (take n vs); kind = kind_of_variable v; length = size_of v })

-- the variable that stands behind these
behind_meant : (d : Declared) (c : Context) → c.project ≡ bound_declared d → (n : ℕ) (v : Variable) → slice_get d.variables n ≡ Some v → IsMeant c (variable_behind (take n d.variables) v)
behind_meant d c project n v h = by_test (is_array v) refl
  where
    by_test : (b : Bool) → is_array v ≡ b → IsMeant c (if b then array (arrays_of (take n d.variables)) (kind_of_variable v) else scalar (to.cell (cells_of (take n d.variables))) (kind_of_variable v))
    by_test true is = ap (λ p. option_map (λ (x : to.Array). x.kind) (slice_get p.arrays (arrays_of (take n d.variables)))) project ∙ ap (option_map (λ (x : to.Array). x.kind)) (array_there d.variables n v h is)
    by_test false is = ap (λ p. option_map (λ (x : to.Cell). x.kind) (slice_get p.cells (cells_of (take n d.variables)))) project ∙ ap (option_map (λ (x : to.Cell). x.kind)) (cell_there d.variables n v h is)

variable_meant : (d : Declared) (c : Context) → c.project ≡ bound_declared d → (n : ℕ) (o : Option Variable) → slice_get d.variables n ≡ o → AreMeant c (option_map (variable_behind (take n d.variables)) o)
variable_meant d c project n None h m e = none_some e
variable_meant d c project n (Some v) h m e = subst (IsMeant c) (some_same e) (behind_meant d c project n v h)

named_meant : (d : Declared) (c : Context) → c.project ≡ bound_declared d → (o : Option ℕ) → AreMeant c (option_and_then (variable_at d.variables) o)
named_meant d c project None m e = none_some e
named_meant d c project (Some n) m e = variable_meant d c project n (slice_get d.variables n) refl m e

pub meant : (d : Declared) (c : Context) (s : Scope) → Stands d c s → (name : List ℕ) → IsMeant c (meaning s name)
meant d c s stands name =
    meant_or c (local_named 0 s.locals name) (variable_named s.declared s.file name) (no_variable (function_named s.declared s.file name))
    (local_meant c [] s.locals stands.rest name 0 refl stands.locals)
    (subst (λ x. AreMeant c (variable_named x s.file name)) (sym stands.declared) (named_meant d c stands.project (variable_number d.variables s.file name)))
    (no_variable_meant c (function_named s.declared s.file name))

-- Functions

map_by_value : (ks : List Kind) → map taken_kind (map by_value ks) ≡ ks
map_by_value [] = refl
map_by_value (k ∷ ks) = ap (λ xs. k ∷ xs) (map_by_value ks)

all_by_value : (ks : List Kind) → list_all is_right (map by_value ks) ≡ true
all_by_value [] = refl
all_by_value (k ∷ ks) = all_by_value ks

private_there : (c : Context) (heads : Heads) (name : List ℕ) (p : PrivateName) → IsThere c heads (private_named name p).called
private_there c heads name p = inl (record {
  right = all_by_value (private_takes p);
  signed = ap (λ ks. Some (record { takes = ks; gives = (private_named name p).called.heading.gives })) (sym (map_by_value (private_takes p)));
  same = λ args. refl;
  firsts = none_left (private_takes p);
  plain = refl;
})

shared_there : (c : Context) (heads : Heads) (name : List ℕ) (q : SharedName) → ((args : to.Exprs) → called_with heads (to.shared q) args ≡ call_given heads (to.shared q) args) → shared_firsts q ≡ [] → is_not_read q ≡ true → IsThere c heads (shared_named name q).called
shared_there c heads name q same none plain = inl (record {
  right = all_by_value (shared_takes q);
  signed = ap (λ ks. Some (record { takes = ks; gives = Some Int })) (sym (map_by_value (shared_takes q)));
  same = same;
  firsts = λ n. ap (λ vs. constants (drop n vs)) none ∙ none_left (shared_takes q) n;
  plain = plain;
})

task_hnd_there : (c : Context) (heads : Heads) → IsThere c heads (record { callee = to.shared requests.TaskHnd; heading = record { takes = with_default Str (values.Str []) ∷ []; gives = Some Int } })
task_hnd_there c heads = inl (record { right = refl; signed = refl; same = λ args. refl; firsts = λ n. refl; plain = refl })

abbrev AllThere : Context → Heads → List Given → Type 0
AllThere c heads [] = Unit {0}
AllThere c heads (g ∷ gs) = IsThere c heads g.called × AllThere c heads gs

all_there : (c : Context) (heads : Heads) → AllThere c heads (private_functions ++ shared_functions)
all_there c heads = (
  private_there c heads (codes "StrLength") names.StrLength,
  (
    private_there c heads (codes "StrLeft") names.StrLeft,
    (
      private_there c heads (codes "StrRight") names.StrRight,
      (
        private_there c heads (codes "StrMid") names.StrMid,
        (
          private_there c heads (codes "StrSearch") names.StrSearch,
          (
            private_there c heads (codes "StrUpper") names.StrUpper,
            (
              private_there c heads (codes "StrLower") names.StrLower,
              (
                private_there c heads (codes "StrTrim") names.StrTrim,
                (
                  private_there c heads (codes "StrFill") names.StrFill,
                  (
                    private_there c heads (codes "StrToInt") names.StrToInt,
                    (
                      private_there c heads (codes "IntToStr") names.IntToStr,
                      (
                        private_there c heads (codes "StrGetChar") names.StrGetChar,
                        (
                          private_there c heads (codes "CharToStr") names.CharToStr,
                          (
                            private_there c heads (codes "Abs") names.Abs,
                            (
                              private_there c heads (codes "Max") names.Max,
                              (
                                private_there c heads (codes "Min") names.Min,
                                (
                                  private_there c heads (codes "Assert") names.Assert,
                                  (
                                    private_there c heads (codes "ErrSet") names.ErrSet,
                                    (
                                      private_there c heads (codes "IsError") names.IsError,
                                      (
                                        shared_there c heads (codes "TaskNew") requests.TaskNew (λ args. refl) refl refl,
                                        (
                                          shared_there c heads (codes "TaskKill") requests.TaskKill (λ args. refl) refl refl,
                                          (
                                            shared_there c heads (codes "TaskSuspend") requests.TaskSuspend (λ args. refl) refl refl,
                                            (
                                              shared_there c heads (codes "TaskResume") requests.TaskResume (λ args. refl) refl refl,
                                              (
                                                task_hnd_there c heads,
                                                (
                                                  shared_there c heads (codes "Sleep") requests.Sleep (λ args. refl) refl refl,
                                                  (
                                                    shared_there c heads (codes "SleepMS") requests.SleepMS (λ args. refl) refl refl,
                                                    (
                                                      shared_there c heads (codes "SemOpen") requests.SemOpen (λ args. refl) refl refl,
                                                      (
                                                        shared_there c heads (codes "SemWait") requests.SemWait (λ args. refl) refl refl,
                                                        (
                                                          shared_there c heads (codes "SemSignal") requests.SemSignal (λ args. refl) refl refl,
                                                          (
                                                            shared_there c heads (codes "SemClose") requests.SemClose (λ args. refl) refl refl,
                                                            (
                                                              shared_there c heads (codes "QueOpen") requests.QueOpen (λ args. refl) refl refl,
                                                              (
                                                                shared_there c heads (codes "QueWrite") requests.QueWrite (λ args. refl) refl refl,
                                                                (
                                                                  inr refl,
                                                                  (
                                                                    shared_there c heads (codes "QueLength") requests.QueLength (λ args. refl) refl refl,
                                                                    (
                                                                      shared_there c heads (codes "QueClose") requests.QueClose (λ args. refl) refl refl,
                                                                      (
                                                                        shared_there c heads (codes "EnterCriticalSection") requests.Enter (λ args. refl) refl refl,
                                                                        (
                                                                          shared_there c heads (codes "LeaveCriticalSection") requests.Leave (λ args. refl) refl refl,
                                                                          (
                                                                            shared_there c heads (codes "TraceMsg") requests.Trace (λ args. refl) refl refl,
                                                                            (
                                                                              shared_there c heads (codes "SysTime") requests.SysTime (λ args. refl) refl refl,
                                                                              (
                                                                                shared_there c heads (codes "Halt") requests.End (λ args. refl) refl refl,
                                                                                tt,
                                                                              ),
                                                                            ),
                                                                          ),
                                                                        ),
                                                                      ),
                                                                    ),
                                                                  ),
                                                                ),
                                                              ),
                                                            ),
                                                          ),
                                                        ),
                                                      ),
                                                    ),
                                                  ),
                                                ),
                                              ),
                                            ),
                                          ),
                                        ),
                                      ),
                                    ),
                                  ),
                                ),
                              ),
                            ),
                          ),
                        ),
                      ),
                    ),
                  ),
                ),
              ),
            ),
          ),
        ),
      ),
    ),
  ),
)

-- all that it gives is there
abbrev AreThere : Context → Heads → Option Called → Type 0
AreThere c heads o = (called : Called) → o ≡ Some called → IsThere c heads called

find_if : (c : Context) (heads : Heads) (g : Given) (b : Bool) (o : Option Given) → IsThere c heads g.called → AreThere c heads (option_map (λ (x : Given). x.called) o) → AreThere c heads (option_map (λ (x : Given). x.called) (if b then Some g else o))
find_if c heads g true o h next called e = subst (IsThere c heads) (some_same e) h
find_if c heads g false o h next called e = next called e

found_there : (c : Context) (heads : Heads) (test : Given → Bool) (gs : List Given) → AllThere c heads gs → AreThere c heads (option_map (λ (g : Given). g.called) (find test gs))
found_there c heads test [] all = λ called e. none_some e
found_there c heads test (g ∷ gs) all = find_if c heads g (test g) (find test gs) all.0 (found_there c heads test gs all.1)

taken_kinds : (ps : List Param) → map (λ (p : to.Param). p.kind) (map bound_param ps) ≡ map taken_kind (map (λ (p : Param). taken (kind_of_type p.kind.name) p.first) ps)
taken_kinds [] = refl
taken_kinds (p ∷ ps) = ap₂ (λ k ks. k ∷ ks) (one_kind (kind_of_type p.kind.name) p.first) (taken_kinds ps)
  where
    one_kind : (kind : Kind) (first : Option Const) → kind ≡ taken_kind (taken kind first)
    one_kind kind None = refl
    one_kind kind (Some first) = refl

-- the first values of parameters stand for what is taken
firsts_taken : (ps : List Param) → map (λ (p : to.Param). p.first) (map bound_param ps) ≡ map default_of (map (λ (p : Param). taken (kind_of_type p.kind.name) p.first) ps)
firsts_taken [] = refl
firsts_taken (p ∷ ps) = ap₂ (λ o os. o ∷ os) (one_first (kind_of_type p.kind.name) p.first) (firsts_taken ps)
  where
    one_first : (kind : Kind) (first : Option Const) → option_map const_value first ≡ default_of (taken kind first)
    one_first kind None = refl
    one_first kind (Some first) = refl

function_there : (d : Declared) (c : Context) (s : Scope) → Stands d c s → (n : ℕ) (f : Function) → slice_get d.functions n ≡ Some f → IsThere c (heads_in d) (record { callee = to.function n; heading = heading_of f })
function_there d c s stands n f h = inl (record {
  right = stands.defaults n f h;
  signed =
      ap (λ p. option_map function_signature (slice_get p.functions n)) stands.project
      ∙ ap (option_map function_signature) (slice_get-map (bound_function d) d.functions n ∙ ap (option_map (bound_function d)) h)
      ∙ ap (λ ks. Some (record { takes = ks; gives = (heading_of f).gives })) (taken_kinds f.params);
  same = λ args. refl;
  firsts = λ k. ap (λ vs. constants (drop k vs))
      (ap firsts_of (slice_get-map (λ (g : Function). map bound_param g.params) d.functions n ∙ ap (option_map (λ (g : Function). map bound_param g.params)) h) ∙ firsts_taken f.params);
  plain = refl;
})

called_there : (d : Declared) (c : Context) (s : Scope) → Stands d c s → (n : ℕ) (o : Option Function) → slice_get d.functions n ≡ o →
    AreThere c (heads_in d) (option_map (λ (f : Function). record { callee = to.function n; heading = heading_of f }) o)
called_there d c s stands n None h called e = none_some e
called_there d c s stands n (Some f) h called e = subst (IsThere c (heads_in d)) (some_same e) (function_there d c s stands n f h)

number_there : (d : Declared) (c : Context) (s : Scope) → Stands d c s → (o : Option ℕ) → AreThere c (heads_in d) (option_and_then (called_function d.functions) o)
number_there d c s stands None called e = none_some e
number_there d c s stands (Some n) called e = called_there d c s stands n (slice_get d.functions n) refl called e

there_or : (c : Context) (heads : Heads) (a b : Option Called) → AreThere c heads a → AreThere c heads b → AreThere c heads (option_or a b)
there_or c heads (Some x) b ha hb called e = ha called e
there_or c heads None b ha hb called e = hb called e

callee_there : (d : Declared) (c : Context) (s : Scope) → Stands d c s → (name : List ℕ) → AreThere c (heads_in s.declared) (callee s name)
callee_there d c s stands name =
    subst (λ x. AreThere c (heads_in x) (function_named x s.file name)) (sym stands.declared)
    (there_or c (heads_in d) (option_and_then (called_function d.functions) (function_number d.functions s.file name)) (given_named name)
    (number_there d c s stands (function_number d.functions s.file name))
    (found_there c (heads_in d) (λ g. str_eq_ignore_ascii_case g.name name) (private_functions ++ shared_functions) (all_there c (heads_in d))))

pub fits : (d : Declared) (c : Context) (s : Scope) → Stands d c s → Fits c s
fits d c s stands = record {
  scalars = λ name of kind h. subst (IsMeant c) h (meant d c s stands name);
  arrays = λ name a kind h. subst (IsMeant c) h (meant d c s stands name);
  calls = λ name. callee_there d c s stands name;
}
