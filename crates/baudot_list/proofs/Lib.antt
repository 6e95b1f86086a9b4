mod ListingRule
