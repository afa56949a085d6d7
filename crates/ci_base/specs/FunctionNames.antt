-- What the functions that touch a task alone are called.
use Rattle.std.specs.Prelude.{ℕ, List, codes}
use Rattle.ci_base.specs.declared.function.PrivateName.{PrivateName}
use Rattle.ci_base.specs.declared.function.PrivateName.TheVariants as names

-- how they are spelled
abbrev pub private_spelling : PrivateName → List ℕ
private_spelling names.StrLength = codes "StrLength"
private_spelling names.StrLeft = codes "StrLeft"
private_spelling names.StrRight = codes "StrRight"
private_spelling names.StrMid = codes "StrMid"
private_spelling names.StrSearch = codes "StrSearch"
private_spelling names.StrUpper = codes "StrUpper"
private_spelling names.StrLower = codes "StrLower"
private_spelling names.StrTrim = codes "StrTrim"
private_spelling names.StrFill = codes "StrFill"
private_spelling names.StrToInt = codes "StrToInt"
private_spelling names.IntToStr = codes "IntToStr"
private_spelling names.StrGetChar = codes "StrGetChar"
private_spelling names.CharToStr = codes "CharToStr"
private_spelling names.Abs = codes "Abs"
private_spelling names.Max = codes "Max"
private_spelling names.Min = codes "Min"
private_spelling names.Assert = codes "Assert"
private_spelling names.ErrSet = codes "ErrSet"
private_spelling names.IsError = codes "IsError"
