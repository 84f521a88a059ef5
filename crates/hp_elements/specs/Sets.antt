-- The sets of elements that the rules name (13.2.4.2, 13.2.4.3, 13.2.6).
use Prim.Native.String.{String}
use Rattle.std.specs.Prelude.{ℕ, List, Bool, ◌++◌, map, ◌&&◌, true, false, not}
use Rattle.std.specs.List.{list_any}
use Rattle.std.specs.Str.{bytes_eq}
use Rattle.hp_elements.specs.Names.{words}
use Rattle.hp_elements.specs.declared.sets.Namespace.{Namespace}
use Rattle.hp_elements.specs.declared.sets.Namespace.TheVariants.{Html, MathMl, Svg}
use Rattle.hp_elements.specs.declared.sets.SetName.{SetName}
use Rattle.hp_elements.specs.declared.sets.SetName.TheVariants as set

-- elements, each by its namespace and its name
abbrev pub Elements : Type 0
Elements = List (Namespace × List ℕ)

abbrev pub html : String → Elements
html names = map (λ name. (Html, name)) (words names)

abbrev pub mathml : String → Elements
mathml names = map (λ name. (MathMl, name)) (words names)

abbrev pub svg : String → Elements
svg names = map (λ name. (Svg, name)) (words names)

abbrev pub foreign_ends : Elements
foreign_ends = mathml "mi mo mn ms mtext annotation-xml" ++ svg "foreignObject desc title"

-- the elements of each set; of SelectScopeEnds those that are not in it
abbrev pub members : SetName → Elements
members set.ForeignEnds = foreign_ends
members set.DefaultScopeEnds = html "applet caption html table td th marquee object template" ++ foreign_ends
members set.ListItemScopeEnds = html "applet caption html table td th marquee object template ol ul" ++ foreign_ends
members set.ButtonScopeEnds = html "applet caption html table td th marquee object template button" ++ foreign_ends
members set.TableScopeEnds = html "html table template"
members set.SelectScopeEnds = html "optgroup option"
members set.Special = html "address applet area article aside base basefont bgsound blockquote body br button caption center col colgroup dd details dir div dl dt embed fieldset figcaption figure footer form frame frameset h1 h2 h3 h4 h5 h6 head header hgroup hr html iframe img input keygen li link listing main marquee menu meta nav noembed noframes noscript object ol p param plaintext pre script search section select source style summary table tbody td template textarea tfoot th thead title tr track ul wbr xmp" ++ foreign_ends
members set.ItemBarriers = html "applet area article aside base basefont bgsound blockquote body br button caption center col colgroup dd details dir dl dt embed fieldset figcaption figure footer form frame frameset h1 h2 h3 h4 h5 h6 head header hgroup hr html iframe img input keygen li link listing main marquee menu meta nav noembed noframes noscript object ol param plaintext pre script search section select source style summary table tbody td template textarea tfoot th thead title tr track ul wbr xmp" ++ foreign_ends
members set.Implied = html "dd dt li optgroup option p rb rp rt rtc"
members set.ImpliedButDd = html "dt li optgroup option p rb rp rt rtc"
members set.ImpliedButDt = html "dd li optgroup option p rb rp rt rtc"
members set.ImpliedButLi = html "dd dt optgroup option p rb rp rt rtc"
members set.ImpliedButOptgroup = html "dd dt li option p rb rp rt rtc"
members set.ImpliedButOption = html "dd dt li optgroup p rb rp rt rtc"
members set.ImpliedButP = html "dd dt li optgroup option rb rp rt rtc"
members set.ImpliedButRb = html "dd dt li optgroup option p rp rt rtc"
members set.ImpliedButRp = html "dd dt li optgroup option p rb rt rtc"
members set.ImpliedButRt = html "dd dt li optgroup option p rb rp rtc"
members set.ImpliedButRtc = html "dd dt li optgroup option p rb rp rt"
members set.ThoroughlyImplied = html "dd dt li optgroup option p rb rp rt rtc caption colgroup tbody td tfoot th thead tr"
members set.Formatting = html "a b big code em font i nobr s small strike strong tt u"
members set.Markers = html "applet object marquee template td th caption"
members set.MathMlTextPoints = mathml "mi mo mn ms mtext"
members set.SvgHtmlPoints = svg "foreignObject desc title"
members set.Void = html "area base basefont bgsound br col embed frame hr img input keygen link meta param source track wbr"
members set.Breakout = html "b big blockquote body br center code dd div dl dt em embed h1 h2 h3 h4 h5 h6 head hr i img li listing menu meta nobr ol p pre ruby s small span strong strike sub sup table tt u ul var"
members set.Headings = html "h1 h2 h3 h4 h5 h6"
members set.DescriptionItems = html "dd dt"
members set.Cells = html "td th"
members set.TableSections = html "tbody tfoot thead"
members set.TableTextParents = html "table tbody template tfoot thead tr"
members set.FosterParents = html "table tbody tfoot thead tr"
members set.TableContext = html "table template html"
members set.TableBodyContext = html "tbody tfoot thead template html"
members set.TableRowContext = html "tr template html"
members set.Options = html "optgroup option"

abbrev pub same_namespace : Namespace → Namespace → Bool
same_namespace Html Html = true
same_namespace MathMl MathMl = true
same_namespace Svg Svg = true
same_namespace _ _ = false

abbrev pub is_member : Elements → Namespace → List ℕ → Bool
is_member elements namespace name = list_any (λ e. same_namespace namespace e.0 && bytes_eq name e.1) elements

-- SelectScopeEnds is all elements but its list
abbrev pub turned : SetName → Bool → Bool
turned set.SelectScopeEnds listed = not listed
turned s listed = listed

-- whether the elements of that namespace and name are in the set
abbrev pub in_set : SetName → Namespace → List ℕ → Bool
in_set s namespace name = turned s (is_member (members s) namespace name)
