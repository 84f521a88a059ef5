-- The tables of the sets that each known name is in, by namespace.
use Rattle.std.specs.Prelude.{ℕ, List, Bool, ◌==◌, not, bit_and}
use Rattle.hp_elements.specs.declared.sets.Namespace.{Namespace}
use Rattle.hp_elements.specs.declared.sets.Namespace.TheVariants.{Html, MathMl, Svg}
use Rattle.hp_elements.specs.declared.sets.SetName.{SetName}
use Rattle.hp_elements.specs.declared.sets.SetName.TheVariants as set
use Rattle.hp_elements.specs.declared.set_masks.TheConstants.{HTML_SETS, MATHML_SETS, SVG_SETS}

unfoldable pub masks_of : Namespace → List ℕ
masks_of Html = HTML_SETS
masks_of MathMl = MATHML_SETS
masks_of Svg = SVG_SETS

-- the bit of a set in the tables
abbrev pub mask_of : SetName → ℕ
mask_of set.ForeignEnds = 1
mask_of set.DefaultScopeEnds = 2
mask_of set.ListItemScopeEnds = 4
mask_of set.ButtonScopeEnds = 8
mask_of set.TableScopeEnds = 16
mask_of set.SelectScopeEnds = 32
mask_of set.Special = 64
mask_of set.ItemBarriers = 128
mask_of set.Implied = 256
mask_of set.ImpliedButDd = 512
mask_of set.ImpliedButDt = 1024
mask_of set.ImpliedButLi = 2048
mask_of set.ImpliedButOptgroup = 4096
mask_of set.ImpliedButOption = 8192
mask_of set.ImpliedButP = 16384
mask_of set.ImpliedButRb = 32768
mask_of set.ImpliedButRp = 65536
mask_of set.ImpliedButRt = 131072
mask_of set.ImpliedButRtc = 262144
mask_of set.ThoroughlyImplied = 524288
mask_of set.Formatting = 1048576
mask_of set.Markers = 2097152
mask_of set.MathMlTextPoints = 4194304
mask_of set.SvgHtmlPoints = 8388608
mask_of set.Void = 16777216
mask_of set.Breakout = 33554432
mask_of set.Headings = 67108864
mask_of set.DescriptionItems = 134217728
mask_of set.Cells = 268435456
mask_of set.TableSections = 536870912
mask_of set.TableTextParents = 1073741824
mask_of set.FosterParents = 2147483648
mask_of set.TableContext = 4294967296
mask_of set.TableBodyContext = 8589934592
mask_of set.TableRowContext = 17179869184
mask_of set.Options = 34359738368

-- whether a row of a table has the bit of a set
abbrev pub has_bit : ℕ → SetName → Bool
has_bit row s = not (bit_and row (mask_of s) == 0)
