use Rattle.std.proofs.Common.{◌≡◌, ℕ, ◌+◌, sym, add-one, arith, Bool, true, false, Option, Some, List, [], ◌∷◌, ◌++◌}
use Rattle.std.proofs.lemmas.List.{append-nil}
use Rattle.ci_words.specs.declared.command.Command.{Command}
use Rattle.ci_words.specs.declared.role.Role.{Role}
use Rattle.ci_words.specs.Role.{word_at, role_after, role_at, same_role, count_before, index_before, indexes_before}

-- the role of the next word
pub role_step : (command : Command) (words : List (List ℕ)) (at : ℕ) (current next : Role) (word : List ℕ) → current ≡ role_at command words at → word ≡ word_at words (at + 1) → next ≡ role_after command current word → next ≡ role_at command words (at + 1)
role_step command words at current next word here read after =
    let there = rw (here, read, add-one at) at after in rw (add-one at) there

-- what a test of a role tells
same_at : (command : Command) (words : List (List ℕ)) (role : Role) (at : ℕ) (current : Role) (answer : Bool) → current ≡ role_at command words at → answer ≡ same_role current role → same_role (role_at command words at) role ≡ answer
same_at command words role at current answer here same = rw (← here) (sym same)

-- a word of the role is counted
pub count_step : (command : Command) (words : List (List ℕ)) (role : Role) (at count next : ℕ) (current : Role) → current ≡ role_at command words at → count ≡ count_before command words role at → true ≡ same_role current role → next ≡ count + 1 → next ≡ count_before command words role (at + 1)
count_step command words role at count next current here so_far same more =
    rw (add-one at, same_at command words role at current true here same, ← so_far) more

-- a word of another role isn't
pub count_kept : (command : Command) (words : List (List ℕ)) (role : Role) (at count next : ℕ) (current : Role) → current ≡ role_at command words at → count ≡ count_before command words role at → false ≡ same_role current role → next ≡ count → next ≡ count_before command words role (at + 1)
count_kept command words role at count next current here so_far other kept =
    rw (add-one at, same_at command words role at current false here other, ← so_far) (omega arith)

-- a word of the role takes the index
pub index_step : (command : Command) (words : List (List ℕ)) (role : Role) (at : ℕ) (next : Option ℕ) (current : Role) → current ≡ role_at command words at → true ≡ same_role current role → next ≡ Some at → next ≡ index_before command words role (at + 1)
index_step command words role at next current here same taken =
    rw (add-one at, same_at command words role at current true here same) taken

-- a word of another role leaves it
pub index_kept : (command : Command) (words : List (List ℕ)) (role : Role) (at : ℕ) (index next : Option ℕ) (current : Role) → current ≡ role_at command words at → index ≡ index_before command words role at → false ≡ same_role current role → next ≡ index → next ≡ index_before command words role (at + 1)
index_kept command words role at index next current here so_far other kept =
    rw (add-one at, same_at command words role at current false here other, ← so_far) kept

-- a word of the role is added to the indexes
pub indexes_step : (command : Command) (words : List (List ℕ)) (role : Role) (at : ℕ) (indexes next : List ℕ) (current : Role) → current ≡ role_at command words at → indexes ≡ indexes_before command words role at → true ≡ same_role current role → next ≡ indexes ++ at ∷ [] → next ≡ indexes_before command words role (at + 1)
indexes_step command words role at indexes next current here so_far same added =
    rw (add-one at, same_at command words role at current true here same, ← so_far) added

-- a word of another role isn't
pub indexes_kept : (command : Command) (words : List (List ℕ)) (role : Role) (at : ℕ) (indexes next : List ℕ) (current : Role) → current ≡ role_at command words at → indexes ≡ indexes_before command words role at → false ≡ same_role current role → next ≡ indexes → next ≡ indexes_before command words role (at + 1)
indexes_kept command words role at indexes next current here so_far other kept =
    rw (add-one at, same_at command words role at current false here other, ← so_far, append-nil) kept
