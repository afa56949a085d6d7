-- Each place of the code of an expression is fine.
use Rattle.std.proofs.Common.{◌≡◌, ℕ, ◌+◌, ◌<◌, ◌≤◌, max, Bool, true, false, List, [], ◌∷◌, ◌++◌, length, Option, Some, refl, sym, subst, arith}
use Rattle.std.proofs.lemmas.Bool.{leb-true}
use Rattle.std.proofs.lemmas.List.{append-nil}
use Rattle.std.specs.Prelude.{◌&&◌, nat_le}
use Rattle.ci_base.specs.declared.bounds.TheConstants.{MOST_HASHES}
use Rattle.ci_base.specs.declared.relation.Relation.{Relation}
use Rattle.ci_base.specs.declared.value.Kind.{Kind}
use Rattle.ci_base.specs.declared.value.Kind.TheVariants.{Int, Str}
use Rattle.ci_code.specs.declared.instruction.Instruction.{Instruction}
use Rattle.ci_code.specs.declared.instruction.Instruction.TheVariants as does
use Rattle.ci_translation.proofs.Facts.{and_both}
use Rattle.ci_translation.specs.Instructions.{comparing, within, operating, operated, turning, left_kind}
use Rattle.ci_translation.specs.Stands.{Scope, Is, ExprAt, CallAt, LinksAt, ArgsAt}
use Rattle.ci_tree.specs.declared.tree.Operator.{Operator}
use Rattle.ci_tree.specs.declared.tree.Operator.TheVariants as op
use Rattle.ci_tree.specs.Bound as to
use Rattle.ci_tree.specs.Bound.{Scalar, Callee, Expr, Call, Links, Exprs, Function, Project}
use Rattle.ci_tree.specs.Rooms.{width, call_width, args_width}
use Rattle.ci_verify.specs.Kinds.{takes_of, leaves_of, below, stays_of}
use Rattle.ci_verify.specs.Rules.{Named, GoesOn, JumpsAhead}
use Rattle.ci_verify.specs.Ways.{way_of}
use Rattle.ci_verify.specs.declared.way.Way.TheVariants.{Next}
use Rattle.ci_rules.proofs.Shapes.{Begins, begins, begins_from, FineAt, Roomy, Wide, fine, push_int}

-- Widths

mutual
  pub some_width : (e : Expr) → 1 ≤ width e
  some_width (to.number n) = omega arith
  some_width (to.literal text) = omega arith
  some_width (to.scalar of) = omega arith
  some_width (to.element a index) = some_width index
  some_width (to.called what) = call_some what
  some_width (to.unary minus e) = some_width e
  some_width (to.chain e rest) = let h = some_width e in omega arith

  pub call_some : (what : Call) → 1 ≤ call_width what
  call_some (to.call callee given args) = omega arith
  call_some (to.que_read queue sort text mode) = let h = some_width queue in omega arith

pub args_wide : (s : Scope) (b : List Kind) (args : Exprs) (ks : List Kind) (n p q : ℕ) → ArgsAt s b args ks p q → n + length ks ≤ max n (args_width n args)
args_wide s b to.no_expr [] n p q h = omega arith
args_wide s b to.no_expr (k ∷ ks) n p q h = absurd h
args_wide s b (to.more e rest) [] n p q h = absurd h
args_wide s b (to.more e rest) (k ∷ ks) n p q (x, ee, er) =
    let h = args_wide s (b ++ k ∷ []) rest ks (n + 1) x q er in
    let w = some_width e in
    omega arith

-- Where code begins, its shape is the one below; and it goes on

module _ (s : Scope) where
  mutual
    pub expr_begins : (b : List Kind) (e : Expr) (g : Option Kind) (p q : ℕ) → ExprAt s b e g p q → Begins s b p
    expr_begins b (to.number n) g p q (eg, is, eq) = begins is
    expr_begins b (to.literal text) g p q (eg, h, eq) = begins h.is
    expr_begins b (to.scalar of) g p q (k, eg, kind, is, eq) = begins is
    expr_begins b (to.element a index) g p q (k, x, eg, kind, ei, is, eq) = expr_begins b index (Some Int) p x ei
    expr_begins b (to.called what) g p q h = call_begins b what g p q h
    expr_begins b (to.unary minus e) g p q (x, eg, ee, is, eq) = expr_begins b e (Some Int) p x ee
    expr_begins b (to.chain e rest) g p q (k, x, ee, el) = expr_begins b e (Some k) p x ee

    pub call_begins : (b : List Kind) (what : Call) (g : Option Kind) (p q : ℕ) → CallAt s b what g p q → Begins s b p
    call_begins b (to.call callee given args) g p q (x, head, found, ea, is, eg, eq) = args_begin b args head.takes p x ea (begins is)
    call_begins b (to.que_read queue sort text mode) g p q (x, y, eg, eh, em, is, keeps) = expr_begins b queue (Some Int) p x eh

    pub args_begin : (b : List Kind) (args : Exprs) (ks : List Kind) (p q : ℕ) → ArgsAt s b args ks p q → Begins s (b ++ ks) q → Begins s b p
    args_begin b to.no_expr [] p q h at = subst (λ n. Begins s b n) (sym h) (subst (λ x. Begins s x q) (append-nil b) at)
    args_begin b to.no_expr (k ∷ ks) p q h at = absurd h
    args_begin b (to.more e rest) [] p q h at = absurd h
    args_begin b (to.more e rest) (k ∷ ks) p q (x, ee, er) at = expr_begins b e (Some k) p x ee

  pub links_begin : (b : List Kind) (rest : Links) (k : Kind) (g : Option Kind) (p q : ℕ) → LinksAt s b rest k g p q → Begins s (b ++ left_kind g ∷ []) q → Begins s (b ++ k ∷ []) p
  links_begin b to.no_link k g p q (eg, eq) at = begins_from s (b ++ k ∷ []) p q (sym eq) (subst (λ o. Begins s (b ++ left_kind o ∷ []) q) eg at)
  links_begin b (to.operand op e rest) k g p q (x, j, eo, ee, is, el) at = expr_begins (b ++ k ∷ []) e (Some k) p x ee
  links_begin b (to.hashes count rest) k g p q (ek, is, el) at = subst (λ j. Begins s (b ++ j ∷ []) p) (sym ek) (begins is)

  mutual
    pub expr_forward : (b : List Kind) (e : Expr) (g : Option Kind) (p q : ℕ) → ExprAt s b e g p q → p < q
    expr_forward b (to.number n) g p q (eg, is, eq) = omega arith
    expr_forward b (to.literal text) g p q (eg, h, eq) = omega arith
    expr_forward b (to.scalar of) g p q (k, eg, kind, is, eq) = omega arith
    expr_forward b (to.element a index) g p q (k, x, eg, kind, ei, is, eq) = let h = expr_forward b index (Some Int) p x ei in omega arith
    expr_forward b (to.called what) g p q h = call_forward b what g p q h
    expr_forward b (to.unary minus e) g p q (x, eg, ee, is, eq) = let h = expr_forward b e (Some Int) p x ee in omega arith
    expr_forward b (to.chain e rest) g p q (k, x, ee, el) =
        let h = expr_forward b e (Some k) p x ee in
        let i = links_forward b rest k g x q el in
        omega arith

    pub call_forward : (b : List Kind) (what : Call) (g : Option Kind) (p q : ℕ) → CallAt s b what g p q → p < q
    call_forward b (to.call callee given args) g p q (x, head, found, ea, is, eg, eq) = let h = args_forward b args head.takes p x ea in omega arith
    call_forward b (to.que_read queue sort text mode) g p q (x, y, eg, eh, em, is, keeps) =
        let h = expr_forward b queue (Some Int) p x eh in
        let i = expr_forward (b ++ Int ∷ []) mode (Some Int) x y em in
        omega (arith, keeps.over)

    pub links_forward : (b : List Kind) (rest : Links) (k : Kind) (g : Option Kind) (p q : ℕ) → LinksAt s b rest k g p q → p ≤ q
    links_forward b to.no_link k g p q (eg, eq) = omega arith
    links_forward b (to.operand op e rest) k g p q (x, j, eo, ee, is, el) =
        let h = expr_forward (b ++ k ∷ []) e (Some k) p x ee in
        let i = links_forward b rest j g (x + 1) q el in
        omega arith
    links_forward b (to.hashes count rest) k g p q (ek, is, el) = let h = links_forward b rest Str g (p + 1) q el in omega arith

    pub args_forward : (b : List Kind) (args : Exprs) (ks : List Kind) (p q : ℕ) → ArgsAt s b args ks p q → p ≤ q
    args_forward b to.no_expr [] p q h = omega arith
    args_forward b to.no_expr (k ∷ ks) p q h = absurd h
    args_forward b (to.more e rest) [] p q h = absurd h
    args_forward b (to.more e rest) (k ∷ ks) p q (x, ee, er) =
        let h = expr_forward b e (Some k) p x ee in
        let i = args_forward (b ++ k ∷ []) rest ks x q er in
        omega arith

-- Instructions of expressions

module _ (s : Scope) (roomy : Roomy s) where
  -- an instruction with a next place, on operands of kinds that are told
  pub plain : (b taken : List Kind) (i j : Kind) (p : ℕ) (what : Instruction) (n : ℕ) → takes_of s.code s.function (b ++ taken) what ≡ taken → stays_of s.code s.function (b ++ taken) what ≡ below (b ++ taken) (takes_of s.code s.function (b ++ taken) what) → leaves_of s.code s.function (b ++ taken) what ≡ i ∷ [] → Named s.code s.function what → way_of what ≡ Next → i ≡ j → Is s (b ++ taken) p what → Begins s (b ++ j ∷ []) (p + 1) → Wide s b n → length taken ≤ n → 1 ≤ n → FineAt s p
  plain b taken i j p what n t u l named w same is at wide tn some =
      fine s roomy b taken (i ∷ []) p what n is (record { takes = t; stays = u; leaves = l }) named
      (subst (GoesOn s.code s.function p (b ++ i ∷ [])) (sym w) (subst (λ x. Begins s (b ++ x ∷ []) (p + 1)) (sym same) at))
      (subst (JumpsAhead s.function p) (sym w) tt)
      wide tn some

  pub turns : (minus : Bool) (b : List Kind) (p n : ℕ) → Is s (b ++ Int ∷ []) p (turning minus) → Begins s (b ++ Int ∷ []) (p + 1) → Wide s b n → 1 ≤ n → FineAt s p
  turns true b p n is at wide some = plain b (Int ∷ []) Int Int p does.Neg n refl refl refl tt refl refl is at wide some some
  turns false b p n is at wide some = plain b (Int ∷ []) Int Int p does.Not n refl refl refl tt refl refl is at wide some some

  ints : (o : Operator) (j : Kind) (b : List Kind) (p n : ℕ) → operated o Int ≡ Some j → Is s (b ++ Int ∷ Int ∷ []) p (operating o Int) → Begins s (b ++ j ∷ []) (p + 1) → Wide s b n → 2 ≤ n → 1 ≤ n → FineAt s p
  ints op.Plus j b p n e is at wide two some = plain b (Int ∷ Int ∷ []) Int j p does.Add n refl refl refl tt refl (cc e) is at wide two some
  ints op.Minus j b p n e is at wide two some = plain b (Int ∷ Int ∷ []) Int j p does.Sub n refl refl refl tt refl (cc e) is at wide two some
  ints op.Times j b p n e is at wide two some = plain b (Int ∷ Int ∷ []) Int j p does.Mul n refl refl refl tt refl (cc e) is at wide two some
  ints op.Over j b p n e is at wide two some = plain b (Int ∷ Int ∷ []) Int j p does.Div n refl refl refl tt refl (cc e) is at wide two some
  ints op.Mod j b p n e is at wide two some = plain b (Int ∷ Int ∷ []) Int j p does.Mod n refl refl refl tt refl (cc e) is at wide two some
  ints op.And j b p n e is at wide two some = plain b (Int ∷ Int ∷ []) Int j p does.And n refl refl refl tt refl (cc e) is at wide two some
  ints op.Or j b p n e is at wide two some = plain b (Int ∷ Int ∷ []) Int j p does.Or n refl refl refl tt refl (cc e) is at wide two some
  ints op.BitAnd j b p n e is at wide two some = plain b (Int ∷ Int ∷ []) Int j p does.BitAnd n refl refl refl tt refl (cc e) is at wide two some
  ints op.BitOr j b p n e is at wide two some = plain b (Int ∷ Int ∷ []) Int j p does.BitOr n refl refl refl tt refl (cc e) is at wide two some
  ints op.BitXor j b p n e is at wide two some = plain b (Int ∷ Int ∷ []) Int j p does.BitXor n refl refl refl tt refl (cc e) is at wide two some
  ints op.Equal j b p n e is at wide two some = plain b (Int ∷ Int ∷ []) Int j p (does.CmpInt _) n refl refl refl tt refl (cc e) is at wide two some
  ints op.Unequal j b p n e is at wide two some = plain b (Int ∷ Int ∷ []) Int j p (does.CmpInt _) n refl refl refl tt refl (cc e) is at wide two some
  ints op.Less j b p n e is at wide two some = plain b (Int ∷ Int ∷ []) Int j p (does.CmpInt _) n refl refl refl tt refl (cc e) is at wide two some
  ints op.Greater j b p n e is at wide two some = plain b (Int ∷ Int ∷ []) Int j p (does.CmpInt _) n refl refl refl tt refl (cc e) is at wide two some
  ints op.AtMost j b p n e is at wide two some = plain b (Int ∷ Int ∷ []) Int j p (does.CmpInt _) n refl refl refl tt refl (cc e) is at wide two some
  ints op.AtLeast j b p n e is at wide two some = plain b (Int ∷ Int ∷ []) Int j p (does.CmpInt _) n refl refl refl tt refl (cc e) is at wide two some

  texts : (o : Operator) (j : Kind) (b : List Kind) (p n : ℕ) → operated o Str ≡ Some j → Is s (b ++ Str ∷ Str ∷ []) p (operating o Str) → Begins s (b ++ j ∷ []) (p + 1) → Wide s b n → 2 ≤ n → 1 ≤ n → FineAt s p
  texts op.Plus j b p n e is at wide two some = plain b (Str ∷ Str ∷ []) Str j p does.Cat n refl refl refl tt refl (cc e) is at wide two some
  texts op.Equal j b p n e is at wide two some = plain b (Str ∷ Str ∷ []) Int j p (does.CmpStr _) n refl refl refl tt refl (cc e) is at wide two some
  texts op.Unequal j b p n e is at wide two some = plain b (Str ∷ Str ∷ []) Int j p (does.CmpStr _) n refl refl refl tt refl (cc e) is at wide two some
  texts op.Less j b p n e is at wide two some = plain b (Str ∷ Str ∷ []) Int j p (does.CmpStr _) n refl refl refl tt refl (cc e) is at wide two some
  texts op.Greater j b p n e is at wide two some = plain b (Str ∷ Str ∷ []) Int j p (does.CmpStr _) n refl refl refl tt refl (cc e) is at wide two some
  texts op.AtMost j b p n e is at wide two some = plain b (Str ∷ Str ∷ []) Int j p (does.CmpStr _) n refl refl refl tt refl (cc e) is at wide two some
  texts op.AtLeast j b p n e is at wide two some = plain b (Str ∷ Str ∷ []) Int j p (does.CmpStr _) n refl refl refl tt refl (cc e) is at wide two some
  texts _ j b p n e is at wide two some = absurd (cc e)

  pub operates : (o : Operator) (k j : Kind) (b : List Kind) (p n : ℕ) → operated o k ≡ Some j → Is s (b ++ k ∷ k ∷ []) p (operating o k) → Begins s (b ++ j ∷ []) (p + 1) → Wide s b n → 2 ≤ n → FineAt s p
  operates o Int j b p n e is at wide two = ints o j b p n e is at wide two (omega arith)
  operates o Str j b p n e is at wide two = texts o j b p n e is at wide two (omega arith)

  pub compares : (r : Relation) (k : Kind) (b : List Kind) (p n : ℕ) → Is s (b ++ k ∷ k ∷ []) p (comparing r k) → Begins s (b ++ Int ∷ []) (p + 1) → Wide s b n → 2 ≤ n → FineAt s p
  compares r Int b p n is at wide two = plain b (Int ∷ Int ∷ []) Int Int p (does.CmpInt r) n refl refl refl tt refl refl is at wide two (omega arith)
  compares r Str b p n is at wide two = plain b (Str ∷ Str ∷ []) Int Int p (does.CmpStr r) n refl refl refl tt refl refl is at wide two (omega arith)

  pub lies_within : (k : Kind) (b : List Kind) (p n : ℕ) → Is s (b ++ k ∷ k ∷ k ∷ []) p (within k) → Begins s (b ++ Int ∷ []) (p + 1) → Wide s b n → 3 ≤ n → FineAt s p
  lies_within Int b p n is at wide three = plain b (Int ∷ Int ∷ Int ∷ []) Int Int p does.WithinInt n refl refl refl tt refl refl is at wide three (omega arith)
  lies_within Str b p n is at wide three = plain b (Str ∷ Str ∷ Str ∷ []) Int Int p does.WithinStr n refl refl refl tt refl refl is at wide three (omega arith)

  pub forms : (count : ℕ) (b : List Kind) (p n : ℕ) → (nat_le 1 count && nat_le count MOST_HASHES) ≡ true → Is s (b ++ Int ∷ []) p (does.Form count) → Begins s (b ++ Str ∷ []) (p + 1) → Wide s b n → 1 ≤ n → FineAt s p
  forms count b p n fit is at wide some =
      let (least, most) = and_both (nat_le 1 count) (nat_le count MOST_HASHES) fit in
      plain b (Int ∷ []) Str Str p (does.Form count) n refl refl refl (leb-true 1 count least, leb-true count MOST_HASHES most) refl refl is at wide some some

  -- an instruction that leaves an INT and takes nothing
  pub leaves_int : (b : List Kind) (p : ℕ) (what : Instruction) (n : ℕ) → takes_of s.code s.function b what ≡ [] → stays_of s.code s.function b what ≡ below b (takes_of s.code s.function b what) → leaves_of s.code s.function b what ≡ Int ∷ [] → Named s.code s.function what → way_of what ≡ Next → Is s b p what → Begins s (b ++ Int ∷ []) (p + 1) → Wide s b n → 1 ≤ n → FineAt s p
  leaves_int b p what n t u l named w is at wide some =
      push_int s roomy b p n what is t u l named (subst (GoesOn s.code s.function p (b ++ Int ∷ [])) (sym w) at) (subst (JumpsAhead s.function p) (sym w) tt) wide some
