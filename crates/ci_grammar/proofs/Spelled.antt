-- The tokens of a completion are such as sources have.
use Rattle.std.proofs.Common.{[], ◌∷◌, refl, rules, arith}
use Rattle.std.specs.Prelude.{pos}
use Rattle.ci_base.specs.Letters.{is_letter, is_capital, is_small, is_name_byte, is_digit, capital}
use Rattle.ci_tree.specs.declared.token.TokenKind.TheVariants.{Name, Number, Hashes}
use Rattle.ci_tree.specs.Words.{reserved, table}
use Rattle.ci_tree.specs.Tokens.{IsKept}
use Rattle.ci_tree.specs.Grammar.{Tokens, AreAll}
use Rattle.ci_tree.specs.Refused.{Symbol, keyword, sign, name, number, hashes, type, item, seen, typed, function, parameter, const, statement, tail, cases, case, label, relation, level, Stack}
use Rattle.ci_grammar.proofs.Completion.{completed, completion, a_function}

kept_name : IsKept (Name (120 ∷ []))
unfolding is_letter is_capital is_small is_name_byte is_digit capital reserved table
kept_name = (refl, refl, omega arith)

kept_number : IsKept (Number (pos 0))
kept_number = search rules

kept_hashes : IsKept (Hashes 1)
kept_hashes = (omega arith, omega arith)

kept_function : (more : Tokens) → AreAll IsKept more → AreAll IsKept (a_function more)
kept_function more h = (tt, (kept_name, (tt, (tt, (tt, h)))))

kept_completed : (s : Symbol) (more : Tokens) → AreAll IsKept more → AreAll IsKept (completed s more)
kept_completed (keyword k) more h = (tt, h)
kept_completed (sign s) more h = (tt, h)
kept_completed name more h = (kept_name, h)
kept_completed number more h = (kept_number, h)
kept_completed hashes more h = (kept_hashes, h)
kept_completed type more h = (tt, h)
kept_completed item more h = (tt, h)
kept_completed seen more h = kept_function more h
kept_completed typed more h = kept_function more h
kept_completed function more h = kept_function more h
kept_completed parameter more h = (tt, (kept_name, h))
kept_completed const more h = (kept_number, h)
kept_completed statement more h = (tt, h)
kept_completed tail more h = (tt, (kept_number, h))
kept_completed cases more h = (tt, (tt, h))
kept_completed case more h = (tt, (tt, (tt, h)))
kept_completed label more h = (kept_number, h)
kept_completed relation more h = (tt, h)
kept_completed (level n) more h = (kept_number, h)
kept_completed s more h = h

pub kept_completion : (stack : Stack) → AreAll IsKept (completion stack)
kept_completion [] = tt
kept_completion (s ∷ stack) = kept_completed s.0 (completion stack) (kept_completion stack)
