-- Shapes of a picture as SVG text. Places and lengths are in tenths of a pixel, texts are bytes.
use Rattle.std.specs.Prelude.{ℕ, ◌/◌, ◌%◌, ℤ, pos, negsuc, unsigned_abs, ◌||◌, List, [], ◌++◌, if◌then◌else◌, ◌==◌, flat_map, codes}
use Rattle.std.specs.Char.{encode_utf8, is_control}
use Rattle.std.specs.Fmt.{decimal}
use Rattle.std.specs.Str.{chars}
use Rattle.std.specs.String.{string_bytes}
use Rattle.drawn.specs.declared.svg.Place.{Place}
use Rattle.drawn.specs.declared.svg.Picture.{Picture}

-- the text of a picture so far
abbrev pub text_so_far : Picture → List ℕ
text_so_far picture = string_bytes picture.text

-- so far from the left edge, and from the upper one
abbrev pub place_at : ℤ → ℤ → Place
place_at x y = record { x = x; y = y }

-- ---- numbers

-- the sign of a length
abbrev pub sign_text : ℤ → List ℕ
sign_text (pos n) = []
sign_text (negsuc n) = codes "-"

-- so many tenths as pixels: `12` or `12.3`
abbrev pub tenths_text : ℕ → List ℕ
tenths_text n = if n % 10 == 0 then decimal (n / 10) else decimal (n / 10) ++ (codes "." ++ decimal (n % 10))

-- a length, with its sign
unfoldable pub pixels_text : ℤ → List ℕ
pixels_text length = sign_text length ++ tenths_text (unsigned_abs length)

-- ---- texts

-- a character as XML has it: those of markup by their names, and in place of one that XML does not allow U+FFFD
unfoldable pub character_in_xml : ℕ → List ℕ
character_in_xml c =
    if c == 38 then codes "&amp;"
    else if c == 60 then codes "&lt;"
    else if c == 62 then codes "&gt;"
    else if c == 34 then codes "&quot;"
    else if c == 65534 || c == 65535 || is_control c then encode_utf8 65533
    else encode_utf8 c

-- a text
unfoldable pub in_xml : List ℕ → List ℕ
in_xml text = flat_map character_in_xml (chars text)

-- ---- shapes; `style` has further attributes

-- two lengths as attributes of these names
unfoldable pub lengths_text : List ℕ → ℤ → List ℕ → ℤ → List ℕ
lengths_text across x down y = across ++ codes "=\"" ++ pixels_text x ++ codes "\" " ++ down ++ codes "=\"" ++ pixels_text y ++ codes "\""

-- a text from a place on
unfoldable pub text_shape : Place → List ℕ → List ℕ → List ℕ
text_shape at style text = codes "<text " ++ lengths_text (codes "x") at.x (codes "y") at.y ++ codes " " ++ style ++ codes ">" ++ in_xml text ++ codes "</text>\n"

-- a straight line
unfoldable pub line_shape : Place → Place → List ℕ → List ℕ
line_shape from to style =
    codes "<line " ++ lengths_text (codes "x1") from.x (codes "y1") from.y ++ codes " " ++ lengths_text (codes "x2") to.x (codes "y2") to.y ++ codes " " ++ style ++ codes "/>\n"

-- a rectangle from its upper left corner
unfoldable pub rectangle_shape : Place → ℤ → ℤ → List ℕ → List ℕ
rectangle_shape corner width height style =
    codes "<rect " ++ lengths_text (codes "x") corner.x (codes "y") corner.y ++ codes " " ++ lengths_text (codes "width") width (codes "height") height ++ codes " " ++ style
    ++ codes "/>\n"

-- ---- a picture of its shapes

-- its size
unfoldable pub sheet_opened : ℤ → ℤ → List ℕ
sheet_opened width height =
    codes "<svg xmlns=\"http://www.w3.org/2000/svg\" " ++ lengths_text (codes "width") width (codes "height") height
    ++ codes " viewBox=\"0 0 " ++ pixels_text width ++ codes " " ++ pixels_text height ++ codes "\" role=\"img\" font-family=\"sans-serif\" font-size=\"12\">\n"

-- its title
unfoldable pub sheet_titled : List ℕ → List ℕ
sheet_titled title = codes "<title>" ++ in_xml title ++ codes "</title>\n"

-- and its white ground
unfoldable pub sheet_whitened : ℤ → ℤ → List ℕ
sheet_whitened width height = codes "<rect " ++ lengths_text (codes "width") width (codes "height") height ++ codes " fill=\"white\"/>\n"

-- what stands before the first shape: a white sheet, with a title that readers of screens are told
unfoldable pub sheet : ℤ → ℤ → List ℕ → List ℕ
sheet width height title = sheet_opened width height ++ sheet_titled title ++ sheet_whitened width height

-- what stands behind the last
abbrev pub sheet_end : List ℕ
sheet_end = codes "</svg>\n"
