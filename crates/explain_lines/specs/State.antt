-- What the lines of the program are, and what a function adds to them.
use Rattle.std.specs.Prelude.{◌≡◌, Bool, List, Result, IfOk, OnOk}
use Rattle.explain_lines.specs.declared.lines.Lines.{Lines}
use Rattle.explain_lines.specs.Explanation.{Explanation}
use Rattle.explain_lines.specs.Lines.{Line, Told, show}

-- The text, where its bytes begin and how many there are.
abbrev pub told : Lines → Told
told lines = record { text = lines.text.items; from = lines.from; count = lines.count }

-- These lines are added, and the next ones are within the same fields.
abbrev pub Adds : {T E : Type 0} → Lines → Lines → Result T E → List Line → Type 0
Adds old new result lines =
    OnOk result ((told new ≡ show (told old) lines) × (new.path.items ≡ old.path.items))

-- The lines of an explanation are added, and the result is whether it ended at a fault.
abbrev pub Explains : {E : Type 0} → Lines → Lines → Result Bool E → Explanation → Type 0
Explains old new result e = IfOk result (λ ended. (told new ≡ show (told old) e.lines)
    × (new.path.items ≡ old.path.items) × (ended ≡ e.ended))
