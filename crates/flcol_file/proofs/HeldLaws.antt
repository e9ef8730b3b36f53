-- What is written is held.
use Rattle.std.proofs.Common.{◌≡◌, ℕ, List, [], ◌∷◌, ap, ◌∙◌}
use Rattle.fl_column.specs.Columns.{Column}
use Rattle.fl_file.specs.FileLaws.{AreChunksOf}
use Rattle.fl_file.specs.Files.{Part}
use Rattle.fl_file.specs.Foot.{FootParts}
use Rattle.fl_file.specs.declared.foot.ChunkEntry.{ChunkEntry}
use Rattle.flcol_file.specs.Files.{ArePartsOf, HoldEach, array_in}

pub held : (bytes : List ℕ) (foot : FootParts) (es : List ChunkEntry) (parts : List Part) (columns : List Column) → AreChunksOf bytes es parts → ArePartsOf foot parts columns → HoldEach bytes foot es columns
held bytes foot [] [] [] chunks of = tt
held bytes foot [] [] (c ∷ columns) chunks of = absurd of
held bytes foot [] (part ∷ parts) columns chunks of = absurd chunks
held bytes foot (e ∷ es) [] columns chunks of = absurd chunks
held bytes foot (e ∷ es) (part ∷ parts) [] chunks of = absurd of
held bytes foot (e ∷ es) (part ∷ parts) (c ∷ columns) chunks of = (
  record { array = of.0.0.0; stored = ap array_in chunks.1 ∙ of.0.0.1; is_column = of.0.0.2; typed = of.0.2; statistics = chunks.0 ∙ of.0.1 },
  held bytes foot es parts columns chunks.2 of.1,
)
