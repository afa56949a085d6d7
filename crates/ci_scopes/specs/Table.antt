-- Tables from names to numbers.
use Rattle.std.specs.Prelude.{ℕ, Bool, ◌&&◌, nat_eq, List, [], ◌∷◌, ◌++◌, Option, Some, None, is_some, if◌then◌else◌}
use Rattle.std.specs.Option.{option_eq}
use Rattle.std.specs.Str.{str_eq_ignore_ascii_case}

-- the file in which alone a name is seen, if any, the name, and its number
abbrev pub Noted : Type 0
Noted = Option ℕ × List ℕ × ℕ

-- it is this name, seen there; letter case has no meaning
abbrev pub is_name : Option ℕ → List ℕ → Noted → Bool
is_name file name e = option_eq nat_eq e.0 file && str_eq_ignore_ascii_case e.1 name

-- the number of the first of these names that is the name
abbrev pub number_of : List Noted → Option ℕ → List ℕ → Option ℕ
number_of [] file name = None
number_of (e ∷ es) file name = if is_name file name e then Some e.2 else number_of es file name

-- the names, and this one, where it isn't among them
abbrev pub noted : List Noted → Option ℕ → List ℕ → ℕ → List Noted
noted es file name number = if is_some (number_of es file name) then es else es ++ (file, name, number) ∷ []
