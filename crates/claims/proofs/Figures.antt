-- The figures are what the definitions say: antt computes them. And in the table with two accesses the number that is left open is our own.
use Rattle.std.proofs.Common.{◌≡◌, refl, map}
use Rattle.cache.specs.Sets.{∅, ◌∪◌, size_below, size}
use Rattle.cache.specs.Counts.{nothing, of_set, ◌⊕◌, capped, ◌on◌, total_below, total}
use Rattle.cache.specs.Levels.{heights}
use Rattle.cache.specs.Words.{number_of, members}
use Rattle.search.specs.Positions.{run, fold_by}
use Rattle.search.specs.Demand.{demand_of}
use Rattle.search.specs.Least.{first_of, least_of}
use Rattle.search.specs.declared.demand.Response.TheVariants.{Within}
use Rattle.table.specs.Tables.{at}
use Rattle.analysis.specs.declared.costs.Single.TheVariants.{UcbOnly}
use Rattle.analysis.specs.declared.Method.TheVariants.{Of}
use Rattle.analysis.specs.Analysis.{counted_response, response_of}
use Rattle.analysis.specs.Figures.{ticks}
use Rattle.analysis.specs.Costs.{reloads_with}
use Rattle.analysis.specs.Covering.{is_covered}
use Rattle.claims.specs.declared.finding.Finding.{Finding}
use Rattle.claims.specs.Findings.{finding_under, finding_of}
use Rattle.claims.specs.Figures.{Y, ClaimFigure, claim_figures}

abbrev finding_found : ClaimFigure → Finding
finding_found f = finding_of f.table f.method f.position f.claim

pub claim-figures-hold :
    (map finding_found claim_figures ≡ map (λ (f : ClaimFigure). f.finding) claim_figures)
    × (response_of Y (Of UcbOnly) 1 ≡ Within (ticks 7))
unfolding response_of counted_response least_of first_of finding_of finding_under is_covered demand_of reloads_with at run fold_by ∅ ◌∪◌ size_below size nothing of_set ◌⊕◌ capped ◌on◌ total_below total heights number_of members
claim-figures-hold = (refl, refl)
