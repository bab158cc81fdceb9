mod PartsOfReports
mod ReportedValues
mod ListedFaults
mod LayoutLaws
mod MentionLaws
mod NotedPlaces
mod NotedValues
