-- What is printed of a log.
use Rattle.std.specs.Prelude.{◌≡◌, ℕ, List, ◌++◌, codes, decimal}
use Rattle.std.specs.List.{flat_map}
use Rattle.noticelog.specs.declared.line.Line.{Line}
use Rattle.noticelog.specs.Log.{BegunLogs, refusal_number}

-- place, refusal's number or 0, and pending notices, in decimal, parted by a space
abbrev pub line_text : Line → List ℕ
line_text l = decimal l.place ++ (codes " " ++ (decimal (refusal_number l.answer) ++ (codes " " ++ decimal l.pending)))

-- a line for each notice
abbrev pub log_text : List Line → List ℕ
log_text lines = flat_map (λ l. line_text l ++ codes "\n") lines

-- the text of the log of the notices in the bytes
abbrev pub Reports : List ℕ → List ℕ → Type 0
Reports bytes text = (lines : List Line) × BegunLogs bytes lines × (text ≡ log_text lines)
