-- How names are spelled.
use Rattle.std.specs.Prelude.{Bool, ◌&&◌, ℕ, List}
use Rattle.std.specs.List.{list_all}
use Rattle.ci_base.specs.Letters.{is_letter, is_name_byte, begins}

-- a letter or `_`, and then letters, digits and `_`; keywords are spelled so too
abbrev pub is_name : List ℕ → Bool
is_name s = begins is_letter s && list_all is_name_byte s
