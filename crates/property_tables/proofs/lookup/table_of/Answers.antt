use Rattle.std.proofs.Common.{sym, ap}
use Rattle.property_tables.specs.Rows.{rows_of, background_rows, fill_rows, line_rows, symbol_rows, circle_rows, heatmap_rows, fill_extrusion_rows, raster_rows, hillshade_rows, color_relief_rows}
use Rattle.property_tables.proofs.lookup.table_of.Goals as goal

pub returns-in-Background-clause-rows : goal.returns-in-Background-clause-rows
unfolding background_rows
returns-in-Background-clause-rows c = ap rows_of (sym c.in-Background.is)

pub returns-in-Fill-clause-rows : goal.returns-in-Fill-clause-rows
unfolding fill_rows
returns-in-Fill-clause-rows c = ap rows_of (sym c.in-Fill.is)

pub returns-in-Line-clause-rows : goal.returns-in-Line-clause-rows
unfolding line_rows
returns-in-Line-clause-rows c = ap rows_of (sym c.in-Line.is)

pub returns-in-Symbol-clause-rows : goal.returns-in-Symbol-clause-rows
unfolding symbol_rows
returns-in-Symbol-clause-rows c = ap rows_of (sym c.in-Symbol.is)

pub returns-in-Circle-clause-rows : goal.returns-in-Circle-clause-rows
unfolding circle_rows
returns-in-Circle-clause-rows c = ap rows_of (sym c.in-Circle.is)

pub returns-in-Heatmap-clause-rows : goal.returns-in-Heatmap-clause-rows
unfolding heatmap_rows
returns-in-Heatmap-clause-rows c = ap rows_of (sym c.in-Heatmap.is)

pub returns-in-FillExtrusion-clause-rows : goal.returns-in-FillExtrusion-clause-rows
unfolding fill_extrusion_rows
returns-in-FillExtrusion-clause-rows c = ap rows_of (sym c.in-FillExtrusion.is)

pub returns-in-Raster-clause-rows : goal.returns-in-Raster-clause-rows
unfolding raster_rows
returns-in-Raster-clause-rows c = ap rows_of (sym c.in-Raster.is)

pub returns-in-Hillshade-clause-rows : goal.returns-in-Hillshade-clause-rows
unfolding hillshade_rows
returns-in-Hillshade-clause-rows c = ap rows_of (sym c.in-Hillshade.is)

pub returns-in-ColorRelief-clause-rows : goal.returns-in-ColorRelief-clause-rows
unfolding color_relief_rows
returns-in-ColorRelief-clause-rows c = ap rows_of (sym c.in-ColorRelief.is)
