-- Steps of the proofs of statements: what is put down in turn, and where jumps lead.
use Rattle.std.proofs.Common.{◌≡◌, ℕ, ◌+◌, List, [], ◌∷◌, ◌++◌, length, Result, OnOk, refl, sym, ap, ◌∙◌, subst, arith, append_assoc}
use Rattle.ci_base.specs.declared.value.Kind.{Kind}
use Rattle.ci_code.specs.declared.instruction.Instruction.TheVariants as does
use Rattle.ci_translation.proofs.Sizes.{call_length, label_length, labels_length, stmt_length, clauses_length, block_length}
use Rattle.ci_translation.specs.Drafts.{Draft, step, call_size, label_size, labels_size, stmt_size, clauses_size, block_size, call_code, label_code, labels_code, stmt_code, clauses_code, block_code, count_code}
use Rattle.ci_translation.specs.Instructions.{past}
use Rattle.ci_emit.proofs.Emitting.{wrote_length}
use Rattle.ci_emit.proofs.Writings.{in_turn, same_code, nothing}
use Rattle.ci_emit.specs.Pads.{Pad, word}
use Rattle.ci_emit.specs.Writing.{Writing, Writes}
use Rattle.ci_tree.specs.Bound as to
use Rattle.ci_tree.specs.Bound.{Scalar, Call, Label, Stmt, Clause, Clauses, clauses_from, Block, block_from}
use Rattle.ci_tree.specs.Sound.{Context}

-- a place that is cut to a word once more
pub word_again : (a n : ℕ) → word (word a + n) ≡ word (a + n)
word_again a n = omega arith

-- where a jump leads past a part of so many places
pub jump_word : (p more n size to : ℕ) → size ≡ word n → to ≡ p + (more + n) → word to ≡ word (p + (more + size))
jump_word p more n size to e f = omega (arith, e, f)

pub call_then : {w v u : Writing} {g : List Kind → ℕ → List Draft} (c : Context) (what : Call) → Writes w v (λ b p. call_code c b p what) → Writes v u g → Writes w u (λ b p. call_code c b p what ++ g b (p + call_size what))
call_then {w} {v} {u} {g} c what first second = in_turn {f = λ b p. call_code c b p what} {g = g} (call_size what) (call_length c w.below (length w.pad.steps) what) first second

pub block_then : {w v u : Writing} {g : List Kind → ℕ → List Draft} (c : Context) (body : Block) → Writes w v (λ b p. block_code c b p body) → Writes v u g → Writes w u (λ b p. block_code c b p body ++ g b (p + block_size body))
block_then {w} {v} {u} {g} c body first second = in_turn {f = λ b p. block_code c b p body} {g = g} (block_size body) (block_length c w.below (length w.pad.steps) body) first second

pub block_over_then : {w v u : Writing} {g : List Kind → ℕ → List Draft} (c : Context) (ks : List Kind) (body : Block) → Writes w v (λ b p. block_code c (b ++ ks) p body) → Writes v u g → Writes w u (λ b p. block_code c (b ++ ks) p body ++ g b (p + block_size body))
block_over_then {w} {v} {u} {g} c ks body first second = in_turn {f = λ b p. block_code c (b ++ ks) p body} {g = g} (block_size body) (block_length c (w.below ++ ks) (length w.pad.steps) body) first second

-- the test of FOR, and a part behind it
pub count_then : {w v u : Writing} {g : List Kind → ℕ → List Draft} (counter : Scalar) (n : ℕ) → Writes w v (λ b p. count_code b counter (past 10 (past 5 p + n))) → Writes v u g → Writes w u (λ b p. count_code b counter (past 10 (past 5 p + n)) ++ g b (past 5 p))
count_then {w} {v} {u} {g} counter n first second =
    let p : ℕ = length w.pad.steps in
    let place : p + 5 ≡ past 5 p = omega arith in
    same_code (λ b q. count_code b counter (past 10 (past 5 q + n)) ++ g b (q + 5)) (λ b q. count_code b counter (past 10 (past 5 q + n)) ++ g b (past 5 q))
    (ap (λ q. count_code w.below counter (past 10 (past 5 p + n)) ++ g w.below q) place)
    (in_turn {f = λ b q. count_code b counter (past 10 (past 5 q + n))} {g = g} 5 refl first second)

-- the place behind what is put down
pub place_behind : {w v : Writing} {f : List Kind → ℕ → List Draft} → Writes w v f → length v.pad.steps ≡ length w.pad.steps + length (f w.below (length w.pad.steps))
place_behind {w} {v} {f} h = ap (λ (x : Pad). length x.steps) h.pad ∙ wrote_length w.pad (f w.below (length w.pad.steps))

-- Bodies

pub record BlockAt (c : Context) (w v : Writing) (all rest : Block) : Type 0 where
  pub goes : (x : Writing) → Writes v x (λ b p. block_code c b p rest) → Writes w x (λ b p. block_code c b p all)

pub block_next : (c : Context) (w v u : Writing) (all left : Block) (s : Stmt) (rest : Block) → left ≡ to.then s rest → Writes v u (λ b p. stmt_code c b p s) → BlockAt c w v all left → BlockAt c w u all rest
block_next c w v u all left s rest is one at = record {
  goes = λ x h. at.goes x (subst (λ (l : Block). Writes v x (λ b p. block_code c b p l)) (sym is) (in_turn {f = λ b p. stmt_code c b p s} {g = λ b p. block_code c b p rest} (stmt_size s) (stmt_length c v.below (length v.pad.steps) s) one h));
}

pub block_done : (c : Context) (w v : Writing) (all left : Block) → left ≡ to.done → BlockAt c w v all left → Writes w v (λ b p. block_code c b p all)
block_done c w v all left is at = at.goes v (subst (λ (l : Block). Writes v v (λ b p. block_code c b p l)) (sym is) nothing)

-- Labels

pub record LabelsAt (c : Context) (k : Kind) (body : ℕ) (w v : Writing) (all rest : List Label) : Type 0 where
  pub goes : (z : ℕ) → body ≡ word z → (x : Writing) → Writes v x (λ b p. labels_code c b k z p rest) → Writes w x (λ b p. labels_code c b k z p all)

pub labels_next : (c : Context) (k : Kind) (body : ℕ) (w v u : Writing) (all left : List Label) (label : Label) (rest : List Label) → left ≡ label ∷ rest → ((z : ℕ) → body ≡ word z → Writes v u (λ b p. label_code c b k z p label)) → LabelsAt c k body w v all left → LabelsAt c k body w u all rest
labels_next c k body w v u all left label rest is one at = record {
  goes = λ z e x h. at.goes z e x (subst (λ (l : List Label). Writes v x (λ b p. labels_code c b k z p l)) (sym is) (in_turn {f = λ b p. label_code c b k z p label} {g = λ b p. labels_code c b k z p rest} (label_size label) (label_length c v.below k z (length v.pad.steps) label) (one z e) h));
}

pub labels_done : (c : Context) (k : Kind) (body : ℕ) (w v : Writing) (all left : List Label) → left ≡ [] → LabelsAt c k body w v all left → (z : ℕ) → body ≡ word z → Writes w v (λ b p. labels_code c b k z p all)
labels_done c k body w v all left is at z e = at.goes z e v (subst (λ (l : List Label). Writes v v (λ b p. labels_code c b k z p l)) (sym is) nothing)

pub labels_then : {w v u : Writing} {g : List Kind → ℕ → List Draft} (c : Context) (k : Kind) (place : ℕ) (labels : List Label) → Writes w v (λ b p. labels_code c b k place p labels) → Writes v u g → Writes w u (λ b p. labels_code c b k place p labels ++ g b (p + labels_size labels))
labels_then {w} {v} {u} {g} c k place labels first second = in_turn {f = λ b p. labels_code c b k place p labels} {g = g} (labels_size labels) (labels_length c w.below k place (length w.pad.steps) labels) first second

-- Clauses

pub record ClausesAt (c : Context) (k : Kind) (end : ℕ) (w v : Writing) (all rest : Clauses) : Type 0 where
  pub goes : (z : ℕ) → end ≡ word z → (x : Writing) → Writes v x (λ b p. clauses_code c b k z p rest) → Writes w x (λ b p. clauses_code c b k z p all)

clause_more : (c : Context) (b : List Kind) (k : Kind) (z p : ℕ) (one : Clause) (rest : Clauses) → clauses_code c b k z p (clauses_from (one ∷ [])) ++ clauses_code c b k z (p + clauses_size (clauses_from (one ∷ []))) rest ≡ clauses_code c b k z p (to.clause one.labels one.body rest)
clause_more c b k z p one rest =
    let x : ℕ = p + labels_size one.labels in
    let y : ℕ = past 2 x + block_size one.body in
    let labels : List Draft = labels_code c b k (x + 1) p one.labels in
    let body : List Draft = block_code c b (past 2 x) one.body in
    let jump : Draft = step (b ++ k ∷ []) (does.Jump (y + 1)) in
    let drop : Draft = step (b ++ k ∷ []) does.Drop in
    let end : Draft = step b (does.Jump z) in
    let behind : ℕ → List Draft = λ n. clauses_code c b k z n rest in
    let place : p + (labels_size one.labels + 2 + block_size one.body + 1 + 0) ≡ y + 1 = omega arith in
    append_assoc labels (jump ∷ drop ∷ (body ++ end ∷ [])) (behind (p + (labels_size one.labels + 2 + block_size one.body + 1 + 0)))
    ∙ ap (λ l. labels ++ jump ∷ drop ∷ l) (append_assoc body (end ∷ []) (behind (p + (labels_size one.labels + 2 + block_size one.body + 1 + 0))))
    ∙ ap (λ n. labels ++ jump ∷ drop ∷ (body ++ end ∷ behind n)) place

pub clauses_next : (c : Context) (k : Kind) (end : ℕ) (w v u : Writing) (all left : Clauses) (one : Clause) (rest : Clauses) → left ≡ to.clause one.labels one.body rest → ((z : ℕ) → end ≡ word z → Writes v u (λ b p. clauses_code c b k z p (clauses_from (one ∷ [])))) → ClausesAt c k end w v all left → ClausesAt c k end w u all rest
clauses_next c k end w v u all left one rest is put at = record {
  goes = λ z e x h. at.goes z e x (subst (λ (l : Clauses). Writes v x (λ b p. clauses_code c b k z p l)) (sym is)
      (same_code (λ b p. clauses_code c b k z p (clauses_from (one ∷ [])) ++ clauses_code c b k z (p + clauses_size (clauses_from (one ∷ []))) rest) (λ b p. clauses_code c b k z p (to.clause one.labels one.body rest))
      (clause_more c v.below k z (length v.pad.steps) one rest)
      (in_turn {f = λ b p. clauses_code c b k z p (clauses_from (one ∷ []))} {g = λ b p. clauses_code c b k z p rest} (clauses_size (clauses_from (one ∷ []))) (clauses_length c v.below k z (length v.pad.steps) (clauses_from (one ∷ []))) (put z e) h)));
}

pub clauses_done : (c : Context) (k : Kind) (end : ℕ) (w v : Writing) (all left : Clauses) → left ≡ to.no_clause → ClausesAt c k end w v all left → (z : ℕ) → end ≡ word z → Writes w v (λ b p. clauses_code c b k z p all)
clauses_done c k end w v all left is at z e = at.goes z e v (subst (λ (l : Clauses). Writes v v (λ b p. clauses_code c b k z p l)) (sym is) nothing)

pub clauses_then : {w v u : Writing} {g : List Kind → ℕ → List Draft} (c : Context) (k : Kind) (z : ℕ) (clauses : Clauses) → Writes w v (λ b p. clauses_code c b k z p clauses) → Writes v u g → Writes w u (λ b p. clauses_code c b k z p clauses ++ g b (p + clauses_size clauses))
clauses_then {w} {v} {u} {g} c k z clauses first second = in_turn {f = λ b p. clauses_code c b k z p clauses} {g = g} (clauses_size clauses) (clauses_length c w.below k z (length w.pad.steps) clauses) first second

-- A part that is seen in another way

pub seen_stmt : {R E : Type 0} (r : Result R E) (c : Context) (w u : Writing) (x y : Stmt) → x ≡ y → OnOk r (Writes w u (λ b p. stmt_code c b p y)) → OnOk r (Writes w u (λ b p. stmt_code c b p x))
seen_stmt r c w u x y e h = subst (λ (z : Stmt). OnOk r (Writes w u (λ b p. stmt_code c b p z))) (sym e) h
