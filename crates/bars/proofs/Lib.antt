mod Lists
mod Reports
