-- The names of the six methods, and their colours in pictures.
use Rattle.std.specs.Prelude.{ℕ, List, [], ◌∷◌, option_map, unwrap_or, slice_index_or, codes}
use Rattle.analysis.specs.declared.costs.Single.{Single}
use Rattle.analysis.specs.declared.costs.Single.TheVariants.{None, EcbOnly, UcbOnly, UcbUnion, EcbUnion}
use Rattle.analysis.specs.declared.Method.{Method}
use Rattle.analysis.specs.declared.Method.TheVariants.{Of, Combined}
use Rattle.analysis.specs.Analysis.{method_of}

-- the methods that count
abbrev pub single_name : Single → List ℕ
single_name None = codes "none"
single_name EcbOnly = codes "ecb-only"
single_name UcbOnly = codes "ucb-only"
single_name UcbUnion = codes "ucb-union"
single_name EcbUnion = codes "ecb-union"

-- the six methods
abbrev pub method_name : Method → List ℕ
method_name (Of m) = single_name m
method_name Combined = codes "combined"

-- by the number of a method, 0 to 5; nothing where there is no such method
unfoldable pub name_by_number : ℕ → List ℕ
name_by_number m = unwrap_or (option_map method_name (method_of m)) []

-- the colour of each, in the order of the numbers
abbrev pub method_colours : List (List ℕ)
method_colours = codes "#000000" ∷ codes "#6a3d9a" ∷ codes "#8a4b08" ∷ codes "#1b7340" ∷ codes "#b3261e" ∷ codes "#0b5fa5" ∷ []

-- of one
unfoldable pub colour_by_number : ℕ → List ℕ
colour_by_number m = slice_index_or method_colours m []
