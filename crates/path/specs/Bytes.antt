-- A path's bytes with the version and k that their head gave.
use Rattle.std.specs.Prelude.{drop}
use Rattle.path.specs.declared.Heading.{Heading}
use Rattle.path.specs.declared.PathBytes.{PathBytes}
use Rattle.path.specs.Path.{PathHead, path_head}

-- the head of such bytes: version, k and the bytes after it
abbrev pub opened : PathBytes → PathHead
opened p = path_head p.version p.k (drop 8 p.bytes.now)

-- what a caller that reads them is told
abbrev pub heading_of : PathBytes → Heading
heading_of p = record { version = p.version; k = p.k }
