-- The laws, from where reading stops and from the law that tokens have a tree exactly where none is refused.
use Rattle.std.proofs.Common.{◌≡◌, ℕ, suc, ◌<◌, ◌≤◌, [], ◌++◌, take, drop, refl, sym, ap, ◌∙◌, subst, inl, inr, arith}
use Rattle.std.specs.Prelude.{◌⊎◌, Option, Some, None}
use Rattle.std.proofs.lemmas.List.{append_assoc, append-nil, take-append-drop, take-take}
use Rattle.ci_tree.specs.Tokens.{IsKept}
use Rattle.ci_tree.specs.Grammar.{Tokens, AreAll, nesting}
use Rattle.ci_tree.specs.Refused.{Refusal, unexpected, unexpected_end, too_deep, refused_at}
use Rattle.ci_parser.specs.OfGrammar.{TreeOrRefused}
use Rattle.ci_grammar.specs.FirstWrong.{AreText, BeginText, IsFirstWrong, AreCutShort, EndIsCutShort, CompletionIsSpelled}
use Rattle.ci_grammar.proofs.Stopped.{start, Stop, Says, refused_from_says}

-- Beginnings of texts

-- a text begins itself
text_begins : (tokens : Tokens) → AreText tokens → BeginText tokens
text_begins tokens text = ([], subst AreText (sym (append-nil tokens)) text)

-- the first tokens of what begins a text begin it too
front_begins : (n : ℕ) (tokens : Tokens) → BeginText tokens → BeginText (take n tokens)
front_begins n tokens (more, text) =
    let whole : take n tokens ++ (drop n tokens ++ more) ≡ tokens ++ more = sym (append_assoc (take n tokens) (drop n tokens) more) ∙ ap (λ (front : Tokens). front ++ more) (take-append-drop n tokens) in
    (drop n tokens ++ more, subst AreText (sym whole) text)

shorter_begins : (m n : ℕ) (tokens : Tokens) → m ≤ n → BeginText (take n tokens) → BeginText (take m tokens)
shorter_begins m n tokens h begins = subst BeginText (take-take m n tokens h) (front_begins m (take n tokens) begins)

-- at most one token is the first that is wrong
not_before : (tokens : Tokens) (one other : ℕ) → IsFirstWrong tokens one → IsFirstWrong tokens other → one < other → ⊥
not_before tokens one other first second h = first.with_it (shorter_begins (suc one) other tokens h second.before)

one_first : (tokens : Tokens) (one other : ℕ) → IsFirstWrong tokens one → IsFirstWrong tokens other → one ≡ other
one_first tokens one other first second = omega (arith, not_before tokens one other first second, not_before tokens other one second first)

-- From refusals

-- what a refusal means
abbrev pub Means : Tokens → Option Refusal → Type 0
Means tokens None = AreText tokens
Means tokens (Some (unexpected at)) = IsFirstWrong tokens at
Means tokens (Some (too_deep at)) = IsFirstWrong tokens at
Means tokens (Some unexpected_end) = AreCutShort tokens

stop_means : TreeOrRefused → (tokens : Tokens) (at : ℕ) → Stop tokens (start nesting) at → IsFirstWrong tokens at
stop_means law tokens at stop = record {
  is_there = stop.is_there;
  before = (stop.before.0, (law (take at tokens ++ stop.before.0)).1 (stop.before.1 0));
  with_it = λ begins. stop.with_it begins.0 0 ((law (take (suc at) tokens ++ begins.0)).0 begins.1);
}

says_means : TreeOrRefused → (tokens : Tokens) (r : Option Refusal) → refused_at tokens ≡ r → Says 0 tokens (start nesting) r → Means tokens r
says_means law tokens None e says = (law tokens).1 e
says_means law tokens (Some (unexpected at)) e (n, same, stop) = subst (IsFirstWrong tokens) (omega arith) (stop_means law tokens n stop)
says_means law tokens (Some (too_deep at)) e (n, same, stop) = subst (IsFirstWrong tokens) (omega arith) (stop_means law tokens n stop)
says_means law tokens (Some unexpected_end) e (more, kept, passes) = record {
  begin = (more, (law (tokens ++ more)).1 (passes 0));
  unfinished = λ text. let none = (law tokens).0 text in absurd (cc);
}

pub refused_means : TreeOrRefused → (tokens : Tokens) → Means tokens (refused_at tokens)
refused_means law tokens = says_means law tokens (refused_at tokens) refl (refused_from_says 0 tokens (start nesting) (tt, tt))

abbrev pub Refuses : Option Refusal → ℕ → Type 0
Refuses r at = (r ≡ Some (unexpected at)) ⊎ (r ≡ Some (too_deep at))

-- and the first wrong token is refused
pub first_refused : TreeOrRefused → (tokens : Tokens) (at : ℕ) → IsFirstWrong tokens at → Refuses (refused_at tokens) at
first_refused law tokens at first = by_refusal (refused_at tokens) (refused_means law tokens)
  where
    by_refusal : (r : Option Refusal) → Means tokens r → Refuses r at
    by_refusal None text = absurd (first.with_it (front_begins (suc at) tokens (text_begins tokens text)))
    by_refusal (Some (unexpected other)) second = inl (ap (λ i. Some (unexpected i)) (one_first tokens other at second first))
    by_refusal (Some (too_deep other)) second = inr (ap (λ i. Some (too_deep i)) (one_first tokens other at second first))
    by_refusal (Some unexpected_end) short = absurd (first.with_it (front_begins (suc at) tokens short.begin))

-- so are tokens that are cut short
short_refused : TreeOrRefused → (tokens : Tokens) → AreCutShort tokens → refused_at tokens ≡ Some unexpected_end
short_refused law tokens short = by_refusal (refused_at tokens) (refused_means law tokens)
  where
    by_refusal : (r : Option Refusal) → Means tokens r → r ≡ Some unexpected_end
    by_refusal None text = absurd (short.unfinished text)
    by_refusal (Some (unexpected at)) first = absurd (first.with_it (front_begins (suc at) tokens short.begin))
    by_refusal (Some (too_deep at)) first = absurd (first.with_it (front_begins (suc at) tokens short.begin))
    by_refusal (Some unexpected_end) same = refl

pub end_is_cut_short : TreeOrRefused → EndIsCutShort
end_is_cut_short law tokens = (λ e. subst (Means tokens) e (refused_means law tokens), short_refused law tokens)

pub completion_is_spelled : TreeOrRefused → CompletionIsSpelled
completion_is_spelled law tokens begins = by_refusal (refused_at tokens) refl (refused_from_says 0 tokens (start nesting) (tt, tt)) (refused_means law tokens)
  where
    by_refusal : (r : Option Refusal) → refused_at tokens ≡ r → Says 0 tokens (start nesting) r → Means tokens r → (more : Tokens) × AreAll IsKept more × AreText (tokens ++ more)
    by_refusal None e says text = ([], tt, subst AreText (sym (append-nil tokens)) text)
    by_refusal (Some (unexpected at)) e says first = absurd (first.with_it (front_begins (suc at) tokens begins))
    by_refusal (Some (too_deep at)) e says first = absurd (first.with_it (front_begins (suc at) tokens begins))
    by_refusal (Some unexpected_end) e (more, kept, passes) short = (more, kept, (law (tokens ++ more)).1 (passes 0))
