-- What is spelled is read again: each reader gives the tree of a text, whatever follows that can't go on with it.
use Rattle.std.proofs.Common.{◌≡◌, ℕ, zero, suc, ◌<◌, ◌≤◌, Bool, true, false, List, [], ◌∷◌, length, Option, Some, None, refl, ap, ◌∙◌, subst, arith, inl, inr}
use Rattle.std.specs.Prelude.{Ok, cond, eqb, Result}
use Rattle.std.proofs.lemmas.Bool.Decides.{eqb_tells}
use Rattle.ci_tree.specs.declared.token.TokenKind.TheVariants.{Hashes, Sign}
use Rattle.ci_tree.specs.declared.token.Sign.TheVariants as mark
use Rattle.ci_tree.specs.declared.tree.Operator.{Operator}
use Rattle.ci_tree.specs.declared.tree.Operator.TheVariants as operator
use Rattle.ci_tree.specs.Tree as to
use Rattle.ci_tree.specs.Grammar.{Tokens, operator_token, group_of, form_group, IsLevel, IsRest, IsUnary, IsArgs, IsMoreArgs, spell_level, spell_rest, spell_unary, spell_args, spell_more_args, after_level, after_rest, after_unary, after_args, after_more_args, tree_level, tree_rest, tree_unary, tree_args, tree_more_args}
use Rattle.ci_tree.specs.Grammar as said
use Rattle.ci_tree.specs.Refused.{Refusal, begins, has_rule, rule, Joint, no_joint, by_operator, by_colon, joint, joint_rule}
use Rattle.ci_tree.specs.Refused as ask
use Rattle.ci_expressions.specs.Reading.{Found, Reader, ◌>>=◌, rest_by, rest, level_on, whole, more_arguments, arguments, suffix, unary, expression}
use Rattle.ci_expressions.proofs.Exact.{begins_as}
use Rattle.ci_expressions.proofs.Longer.{longer_level}
use Rattle.ci_expressions.proofs.Levels.{rest_none}

-- one reading, and what is made of it
pub then_again : {A B : Type 0} {r : Result A Refusal} {x : A} {y : Result B Refusal} (f : A → Result B Refusal) → r ≡ Ok x → f x ≡ y → (r >>= f) ≡ y
then_again f e h = ap (λ r. r >>= f) e ∙ h

-- the first way, and the second
pub first_way : {A : Type 0} {b : Bool} {x z : A} (y : A) → b ≡ true → x ≡ z → cond b x y ≡ z
first_way {b} {x} {z} y e h = ap (λ b. cond b x y) e ∙ h

pub second_way : {A : Type 0} {b : Bool} {y z : A} (x : A) → b ≡ false → y ≡ z → cond b x y ≡ z
second_way {b} {y} {z} x e h = ap (λ b. cond b x y) e ∙ h

-- What follows can't go on with a name, nor with a chain of the groups below n.
pub record Ends (n : ℕ) (k : Tokens) : Type 0 where
  pub no_suffix : begins ask.suffix k ≡ false
  pub no_rest : (m : ℕ) → m < n → begins (ask.rest m) k ≡ false

-- an operator, and `:`, join in their own group alone

above_differs : (g m : ℕ) → m < g → eqb g m ≡ false
above_differs g m h = elim (eqb_tells g m) [ inl e ↦ absurd (omega arith) | inr e ↦ e.0 ]

not_here : (g m : ℕ) (j : Joint) → m < g → has_rule (joint_rule m (cond (eqb g m) j no_joint)) ≡ false
not_here g m j h = ap (λ b. has_rule (joint_rule m (cond b j no_joint))) (above_differs g m h)

operator_ends : (op : Operator) (k : Tokens) → Ends (group_of op) (operator_token op ∷ k)
operator_ends operator.BitAnd k = record { no_suffix = refl; no_rest = λ m h. not_here 7 m (by_operator operator.BitAnd) h }
operator_ends operator.BitOr k = record { no_suffix = refl; no_rest = λ m h. not_here 7 m (by_operator operator.BitOr) h }
operator_ends operator.BitXor k = record { no_suffix = refl; no_rest = λ m h. not_here 7 m (by_operator operator.BitXor) h }
operator_ends operator.Or k = record { no_suffix = refl; no_rest = λ m h. not_here 6 m (by_operator operator.Or) h }
operator_ends operator.And k = record { no_suffix = refl; no_rest = λ m h. not_here 5 m (by_operator operator.And) h }
operator_ends operator.Equal k = record { no_suffix = refl; no_rest = λ m h. not_here 4 m (by_operator operator.Equal) h }
operator_ends operator.Unequal k = record { no_suffix = refl; no_rest = λ m h. not_here 4 m (by_operator operator.Unequal) h }
operator_ends operator.Less k = record { no_suffix = refl; no_rest = λ m h. not_here 3 m (by_operator operator.Less) h }
operator_ends operator.Greater k = record { no_suffix = refl; no_rest = λ m h. not_here 3 m (by_operator operator.Greater) h }
operator_ends operator.AtMost k = record { no_suffix = refl; no_rest = λ m h. not_here 3 m (by_operator operator.AtMost) h }
operator_ends operator.AtLeast k = record { no_suffix = refl; no_rest = λ m h. not_here 3 m (by_operator operator.AtLeast) h }
operator_ends operator.Plus k = record { no_suffix = refl; no_rest = λ m h. not_here 2 m (by_operator operator.Plus) h }
operator_ends operator.Minus k = record { no_suffix = refl; no_rest = λ m h. not_here 2 m (by_operator operator.Minus) h }
operator_ends operator.Times k = record { no_suffix = refl; no_rest = λ m h. not_here 0 m (by_operator operator.Times) h }
operator_ends operator.Over k = record { no_suffix = refl; no_rest = λ m h. not_here 0 m (by_operator operator.Over) h }
operator_ends operator.Mod k = record { no_suffix = refl; no_rest = λ m h. not_here 0 m (by_operator operator.Mod) h }

colon_ends : (k : Tokens) → Ends form_group (Sign mark.Colon ∷ k)
colon_ends k = record { no_suffix = refl; no_rest = λ m h. not_here form_group m by_colon h }

colon_joins : joint form_group (Sign mark.Colon) ≡ by_colon
colon_joins = refl

operator_joins : (op : Operator) → joint (group_of op) (operator_token op) ≡ by_operator op
operator_joins operator.BitAnd = refl
operator_joins operator.BitOr = refl
operator_joins operator.BitXor = refl
operator_joins operator.Or = refl
operator_joins operator.And = refl
operator_joins operator.Equal = refl
operator_joins operator.Unequal = refl
operator_joins operator.Less = refl
operator_joins operator.Greater = refl
operator_joins operator.AtMost = refl
operator_joins operator.AtLeast = refl
operator_joins operator.Plus = refl
operator_joins operator.Minus = refl
operator_joins operator.Times = refl
operator_joins operator.Over = refl
operator_joins operator.Mod = refl

fewer_ends : (n : ℕ) (k : Tokens) → Ends (suc n) k → Ends n k
fewer_ends n k ends = record { no_suffix = ends.no_suffix; no_rest = λ m h. let l : m < suc n = omega arith in ends.no_rest m l }

-- a member of a chain ends where the rest of the chain begins
rest_ends : (r : said.Rest) (n d : ℕ) → IsRest n d r → (k : Tokens) → Ends (suc n) k → Ends n (spell_rest r k)
rest_ends said.no_rest n d is k ends = fewer_ends n k ends
rest_ends (said.joined op right rest) n d is k ends = subst (λ (g : ℕ). Ends g (operator_token op ∷ spell_level right (spell_rest rest k))) is.0 (operator_ends op (spell_level right (spell_rest rest k)))
rest_ends (said.formed count rest) n d is k ends = subst (λ (g : ℕ). Ends g (Sign mark.Colon ∷ Hashes count ∷ spell_rest rest k)) is.0 (colon_ends (Hashes count ∷ spell_rest rest k))

suffix_none : (base : Option (Reader to.Expr)) (at : ℕ) (x : List ℕ) (i : ℕ) (k : Tokens) → begins ask.suffix k ≡ false → suffix base at x i k ≡ Ok (to.expr at at (to.name x), i, k)
suffix_none base at x i (Sign mark.LeftParen ∷ ts) e = absurd (cc)
suffix_none base at x i (Sign mark.LeftBracket ∷ ts) e = absurd (cc)
suffix_none base at x i ts e = refl

-- an expression begins with a token that begins one

unary_begins : (u : said.Unary) (k : Tokens) → begins (ask.level 0) (spell_unary u k) ≡ true
unary_begins (said.minus u) k = refl
unary_begins (said.not u) k = refl
unary_begins (said.number v) k = refl
unary_begins (said.text t) k = refl
unary_begins (said.parens e) k = refl
unary_begins (said.name x) k = refl
unary_begins (said.called x a) k = refl
unary_begins (said.element x e) k = refl

pub level_begins : (e : said.Level) (k : Tokens) → begins (ask.level 0) (spell_level e k) ≡ true
level_begins (said.single u) k = unary_begins u k
level_begins (said.group first rest) k = level_begins first (spell_rest rest k)

begins_below : (n : ℕ) (ts : Tokens) → begins (ask.level n) ts ≡ begins (ask.level 0) ts
begins_below zero ts = refl
begins_below (suc n) ts = begins_as (ask.level (suc n)) (ask.level n) (ask.rest n ∷ []) ts (λ u. refl) ∙ begins_below n ts

pub expression_begins : (e : said.Level) (k : Tokens) → begins ask.expression (spell_level e k) ≡ true
expression_begins e k = begins_below 8 (spell_level e k) ∙ level_begins e k

arguments_begin : (e : said.Level) (k : Tokens) → begins ask.arguments (spell_level e k) ≡ true
arguments_begin e k = begins_as ask.arguments ask.expression (ask.more_arguments ∷ []) (spell_level e k) (λ u. refl) ∙ expression_begins e k

-- what ends every expression
more_ends : (m : said.MoreArgs) (k : Tokens) → Ends 8 (spell_more_args m (Sign mark.RightParen ∷ k))
more_ends said.no_more_args k = record { no_suffix = refl; no_rest = λ m h. refl }
more_ends (said.comma_arg e rest) k = record { no_suffix = refl; no_rest = λ m h. refl }

as_whole : (base : Reader to.Expr) (i : ℕ) (ts : Tokens) (r : Found to.Expr) → level_on base 8 i ts ≡ r → whole base i ts ≡ r
unfolding whole
as_whole base i ts r h = h

mutual
  unary_again : (u : said.Unary) (d : ℕ) → IsUnary d u → (i : ℕ) (k : Tokens) → begins ask.suffix k ≡ false → unary d i (spell_unary u k) ≡ Ok (tree_unary i u, after_unary i u, k)
  unary_again (said.minus u) zero is i k e = absurd is
  unary_again (said.minus u) (suc d) is i k e = then_again _ (unary_again u d is (suc i) k e) refl
  unary_again (said.not u) zero is i k e = absurd is
  unary_again (said.not u) (suc d) is i k e = then_again _ (unary_again u d is (suc i) k e) refl
  unary_again (said.number v) zero is i k e = refl
  unary_again (said.number v) (suc d) is i k e = refl
  unary_again (said.text t) zero is i k e = refl
  unary_again (said.text t) (suc d) is i k e = refl
  unary_again (said.parens c) zero is i k e = absurd is
  unary_again (said.parens c) (suc d) is i k e = then_again _ (as_whole _ _ _ _ (level_again c 8 d is (suc i) (Sign mark.RightParen ∷ k) (record { no_suffix = refl; no_rest = λ m h. refl }))) refl
  unary_again (said.name x) zero is i k e = suffix_none None i x (suc i) k e
  unary_again (said.name x) (suc d) is i k e = suffix_none (Some (unary d)) i x (suc i) k e
  unary_again (said.called x a) zero is i k e = absurd is
  unary_again (said.called x a) (suc d) is i k e = then_again _ (args_again a d is (suc (suc i)) k) refl
  unary_again (said.element x c) zero is i k e = absurd is
  unary_again (said.element x c) (suc d) is i k e = then_again _ (as_whole _ _ _ _ (level_again c 8 d is (suc (suc i)) (Sign mark.RightBracket ∷ k) (record { no_suffix = refl; no_rest = λ m h. refl }))) refl

  level_again : (c : said.Level) (n d : ℕ) → IsLevel n d c → (i : ℕ) (k : Tokens) → Ends n k → level_on (unary d) n i (spell_level c k) ≡ Ok (tree_level i c, after_level i c, k)
  level_again (said.single u) zero d is i k ends = unary_again u d is i k ends.no_suffix
  level_again (said.single u) (suc n) d is i k ends = absurd is
  level_again (said.group first rest) zero d is i k ends = absurd is
  level_again (said.group first rest) (suc n) d is i k ends =
      let short : length (spell_rest rest k) ≤ length (spell_rest rest k) = omega arith in
      then_again _ (level_again first n d is.0 i (spell_rest rest k) (rest_ends rest n d is.1 k ends))
      (then_again _ (rest_again rest n d is.1 (length (spell_rest rest k)) (after_level i first) k short ends) refl)

  rest_again : (r : said.Rest) (n d : ℕ) → IsRest n d r → (fuel i : ℕ) (k : Tokens) → length (spell_rest r k) ≤ fuel → Ends (suc n) k → rest (level_on (unary d) n) n fuel i (spell_rest r k) ≡ Ok (tree_rest i r, after_rest i r, k)
  rest_again said.no_rest n d is fuel i k short ends = let l : n < suc n = omega arith in rest_none (level_on (unary d) n) n fuel i k (ends.no_rest n l)
  rest_again (said.joined op right more) n d is zero i k short ends = absurd (omega arith)
  rest_again (said.joined op right more) n d is (suc fuel) i k short ends =
      let shorter : length (spell_rest more k) ≤ fuel = omega (arith, longer_level right (spell_rest more k)) in
      ap (λ (j : Joint). rest_by (level_on (unary d) n) (rest (level_on (unary d) n) n fuel) i (spell_level right (spell_rest more k)) (operator_token op) j)
      (subst (λ (g : ℕ). joint g (operator_token op) ≡ by_operator op) is.0 (operator_joins op))
      ∙ then_again _ (level_again right n d is.1 (suc i) (spell_rest more k) (rest_ends more n d is.2 k ends))
      (then_again _ (rest_again more n d is.2 fuel (after_level (suc i) right) k shorter ends) refl)
  rest_again (said.formed count more) n d is zero i k short ends = absurd (omega arith)
  rest_again (said.formed count more) n d is (suc fuel) i k short ends =
      let shorter : length (spell_rest more k) ≤ fuel = omega arith in
      ap (λ (j : Joint). rest_by (level_on (unary d) n) (rest (level_on (unary d) n) n fuel) i (Hashes count ∷ spell_rest more k) (Sign mark.Colon) j)
      (subst (λ (g : ℕ). joint g (Sign mark.Colon) ≡ by_colon) is.0 (colon_joins))
      ∙ then_again _ (rest_again more n d is.1 fuel (suc (suc i)) k shorter ends) refl

  args_again : (a : said.Args) (d : ℕ) → IsArgs d a → (i : ℕ) (k : Tokens) → arguments (whole (unary d)) i (spell_args a (Sign mark.RightParen ∷ k)) ≡ Ok (tree_args i a, after_args i a, Sign mark.RightParen ∷ k)
  args_again said.no_args d is i k = refl
  args_again (said.args e rest) d is i k =
      let short : length (spell_more_args rest (Sign mark.RightParen ∷ k)) ≤ length (spell_more_args rest (Sign mark.RightParen ∷ k)) = omega arith in
      first_way _ (arguments_begin e (spell_more_args rest (Sign mark.RightParen ∷ k)))
      (then_again _ (as_whole _ _ _ _ (level_again e 8 d is.0 i (spell_more_args rest (Sign mark.RightParen ∷ k)) (more_ends rest k)))
      (then_again _ (more_again rest d is.1 (length (spell_more_args rest (Sign mark.RightParen ∷ k))) (after_level i e) k short) refl))

  more_again : (m : said.MoreArgs) (d : ℕ) → IsMoreArgs d m → (fuel i : ℕ) (k : Tokens) → length (spell_more_args m (Sign mark.RightParen ∷ k)) ≤ fuel → more_arguments (whole (unary d)) fuel i (spell_more_args m (Sign mark.RightParen ∷ k)) ≡ Ok (tree_more_args i m, after_more_args i m, Sign mark.RightParen ∷ k)
  more_again said.no_more_args d is zero i k short = refl
  more_again said.no_more_args d is (suc fuel) i k short = refl
  more_again (said.comma_arg e rest) d is zero i k short = absurd (omega arith)
  more_again (said.comma_arg e rest) d is (suc fuel) i k short =
      let shorter : length (spell_more_args rest (Sign mark.RightParen ∷ k)) ≤ fuel = omega (arith, longer_level e (spell_more_args rest (Sign mark.RightParen ∷ k))) in
      then_again _ (as_whole _ _ _ _ (level_again e 8 d is.0 (suc i) (spell_more_args rest (Sign mark.RightParen ∷ k)) (more_ends rest k)))
      (then_again _ (more_again rest d is.1 fuel (after_level (suc i) e) k shorter) refl)

pub expression_again : (e : said.Level) (d : ℕ) → said.IsExpr d e → (i : ℕ) (k : Tokens) → Ends 8 k → expression d i (spell_level e k) ≡ Ok (tree_level i e, after_level i e, k)
expression_again e d is i k ends = as_whole _ _ _ _ (level_again e 8 d is i k ends)

pub arguments_again : (a : said.Args) (d : ℕ) → IsArgs d a → (i : ℕ) (k : Tokens) → arguments (expression d) i (spell_args a (Sign mark.RightParen ∷ k)) ≡ Ok (tree_args i a, after_args i a, Sign mark.RightParen ∷ k)
arguments_again a d is i k = args_again a d is i k
