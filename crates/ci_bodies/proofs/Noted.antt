-- The first fault of several parts is the first of their first faults.
use Rattle.std.proofs.Common.{◌≡◌, ℕ, List, [], ◌∷◌, ◌++◌, Option, Some, None, sym, ap, ◌∙◌, refl, arith}
use Rattle.std.specs.Prelude.{Bool, true, false, if◌then◌else◌, ◌&&◌, ◌||◌, nat_lt, nat_le, ◌==◌}
use Rattle.std.proofs.lemmas.Bool.Decides.{nat_tests}
use Rattle.ci_names.specs.declared.fault.Fault.{Fault}
use Rattle.ci_names.specs.Fault.{is_before, kind_number, noted}
use Rattle.ci_names.specs.declared.fault.BindKind.{BindKind}
use Rattle.ci_names.specs.Scopes.{Scope}
use Rattle.ci_names.specs.Expressions.{broken}
use Rattle.ci_bodies.specs.Found.{merged}

pub noted_append : (found : Option Fault) (fs gs : List Fault) → noted found (fs ++ gs) ≡ noted (noted found fs) gs
noted_append found [] gs = refl
noted_append None (f ∷ fs) gs = noted_append (Some f) fs gs
noted_append (Some g) (f ∷ fs) gs = noted_append (Some (if is_before f g then f else g)) fs gs

-- three numbers, compared by the first, then by the second, then by the third
abbrev lex : ℕ → ℕ → ℕ → ℕ → ℕ → ℕ → Bool
lex a b c x y z = nat_lt a x || (a == x && (nat_lt b y || (b == y && nat_le c z)))

lex_trans : (a b c x y z p q r : ℕ) → lex a b c x y z ≡ true → lex x y z p q r ≡ true → lex a b c p q r ≡ true
lex_trans a b c x y z p q r h i = grind (arith, nat_tests)

lex_total : (a b c x y z : ℕ) → lex a b c x y z ≡ false → lex x y z a b c ≡ true
lex_total a b c x y z h = grind (arith, nat_tests)

before_trans : (f g h : Fault) → is_before f g ≡ true → is_before g h ≡ true → is_before f h ≡ true
before_trans f g h i j = lex_trans f.file f.token (kind_number f.kind) g.file g.token (kind_number g.kind) h.file h.token (kind_number h.kind) i j

before_total : (f g : Fault) → is_before f g ≡ false → is_before g f ≡ true
before_total f g h = lex_total f.file f.token (kind_number f.kind) g.file g.token (kind_number g.kind) h

-- the second of two faults where it comes before the first, and else the first
abbrev first : Fault → Fault → Fault
first g f = if is_before f g then f else g

first_by : (x g f : Fault) (a b c : Bool) → is_before g x ≡ a → is_before f g ≡ b → is_before f x ≡ c
    → first (if a then g else x) f ≡ first x (if b then f else g)
first_by x g f true true true i j k = ap (λ t. if t then f else g) j ∙ sym (ap (λ t. if t then f else x) k)
first_by x g f true true false i j k = absurd (cc (before_trans f g x j i))
first_by x g f true false c i j k = ap (λ t. if t then f else g) j ∙ sym (ap (λ t. if t then g else x) i)
first_by x g f false true c i j k = refl
first_by x g f false false true i j k = absurd (cc (before_trans f x g k (before_total g x i)))
first_by x g f false false false i j k = ap (λ t. if t then f else x) k ∙ sym (ap (λ t. if t then g else x) i)

first_first : (x g f : Fault) → first (first x g) f ≡ first x (first g f)
first_first x g f = first_by x g f (is_before g x) (is_before f g) (is_before f x) refl refl refl

noted_some : (x g : Fault) (fs : List Fault) → noted (Some (first x g)) fs ≡ merged (Some x) (noted (Some g) fs)
noted_some x g [] = refl
noted_some x g (f ∷ fs) = ap (λ t. noted (Some t) fs) (first_first x g f) ∙ noted_some x (first g f) fs

merged_none : (found : Option Fault) → merged None found ≡ found
merged_none None = refl
merged_none (Some f) = refl

-- a part's own first fault tells as much as all its faults
pub noted_merged : (found : Option Fault) (fs : List Fault) → noted found fs ≡ merged found (noted None fs)
noted_merged found [] = refl
noted_merged None (f ∷ fs) = sym (merged_none (noted (Some f) fs))
noted_merged (Some x) (f ∷ fs) = noted_some x f fs

-- two parts, one behind the other
pub both_noted : (old mid new : Option Fault) (fs gs : List Fault) → mid ≡ noted old fs → new ≡ noted mid gs → new ≡ noted old (fs ++ gs)
both_noted old mid new fs gs m n = n ∙ ap (λ o. noted o gs) m ∙ sym (noted_append old fs gs)

-- three parts, one behind the other
pub three_noted : (old mid more new : Option Fault) (fs gs hs : List Fault) → mid ≡ noted old fs → more ≡ noted mid gs → new ≡ noted more hs → new ≡ noted old ((fs ++ gs) ++ hs)
three_noted old mid more new fs gs hs m o n = both_noted old more new (fs ++ gs) hs (both_noted old mid more fs gs m o) n

-- a part, and behind it two that were told together
pub two_noted : (old mid new : Option Fault) (fs gs hs : List Fault) → mid ≡ noted old fs → new ≡ noted mid (gs ++ hs) → new ≡ noted old ((fs ++ gs) ++ hs)
two_noted old mid new fs gs hs m n = three_noted old mid (noted mid gs) new fs gs hs m refl (n ∙ noted_append mid gs hs)

-- a rule, and behind it a part that was walked by itself
pub part_noted : (old mid inside new : Option Fault) (fs gs : List Fault) → mid ≡ noted old fs → inside ≡ noted None gs → new ≡ merged mid inside → new ≡ noted old (fs ++ gs)
part_noted old mid inside new fs gs m i n = n ∙ ap (merged mid) i ∙ sym (noted_merged mid gs) ∙ ap (λ o. noted o gs) m ∙ sym (noted_append old fs gs)

-- a rule for parts that have these kinds
pub rule_noted : (old new : Option Fault) (s : Scope) (token : ℕ) (kind : BindKind) (a b : Bool) → a ≡ b → new ≡ noted old (broken a s token kind) → new ≡ noted old (broken b s token kind)
rule_noted old new s token kind a b e n = n ∙ ap (λ x. noted old (broken x s token kind)) e
